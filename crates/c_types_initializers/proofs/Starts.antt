-- Where expressions and values begin, and what stands at a node.
use Rattle.std.proofs.Common.{◌≡◌, ◌<◌, ℕ, length, Some, refl, ap, ◌∙◌, subst}
use Rattle.std.proofs.lemmas.Option.{slice_get_within}
use Rattle.c_lexer.specs.declared.token.Sign.{Sign}
use Rattle.c_syntax.specs.declared.id.ExprId.{ExprId}
use Rattle.c_syntax.specs.declared.expression.Expr.{Expr as ExprNode}
use Rattle.c_syntax.specs.declared.expression.ExprKind.{ExprKind}
use Rattle.c_syntax.specs.declared.expression.ExprKind.TheVariants as exprs
use Rattle.c_syntax.specs.Nodes.{Nodes, expr_at}
use Rattle.c_syntax.specs.Syntax.{Expr, Name, Number, Char, Text, Binary, Assign, Cond, Prefix, Postfix, SizeofExpr, SizeofType, Cast, Index, Call, Member, Arrow}
use Rattle.c_syntax.specs.Stands.{Stands, IsExprAt}
use Rattle.c_syntax.proofs.Only.{prefix_only}
use Rattle.c_syntax_laws.specs.Numbers.{FitsExpr}
use Rattle.c_types_expressions.specs.Walks.{IsExpr}

kind_at : (N : Nodes) (i : ExprId) (f : ℕ) (k : ExprKind) (e : ExprNode) → IsExprAt N i f k → expr_at N i ≡ Some e → e.kind ≡ k
kind_at N i f k e (d, at, from, kind) h = let same : e ≡ d = cc in ap (λ n. n.kind) same ∙ kind

-- what an expression is, by its node
pub kind_in : (N : Nodes) (i : ExprId) (x : Expr) → Stands N i x → ExprKind
kind_in N i (Name f n) q = exprs.Name n
kind_in N i (Number f v s d) q = exprs.Number v s d
kind_in N i (Char f v) q = exprs.Char v
kind_in N i (Text f n) q = exprs.Text n
kind_in N i (Binary f s x y) (a, b, q, u, v) = exprs.Binary s a b
kind_in N i (Assign f s x y) (a, b, q, u, v) = exprs.Assign s a b
kind_in N i (Cond f x y z) (a, b, c, q, u, v, w) = exprs.Cond a b c
kind_in N i (Prefix f s x) (a, q, u) = exprs.Prefix s a
kind_in N i (Postfix f s x) (a, q, u) = exprs.Postfix s a
kind_in N i (SizeofExpr f x) (a, q, u) = exprs.SizeofExpr a
kind_in N i (SizeofType f d) (a, q, u) = exprs.SizeofType a
kind_in N i (Cast f d x) (a, b, q, u, v) = exprs.Cast a b
kind_in N i (Index f x y) (a, b, q, u, v) = exprs.Index a b
kind_in N i (Call f x xs) (a, is, q, u, v) = exprs.Call a is
kind_in N i (Member f x n) (a, q, u) = exprs.Member a n
kind_in N i (Arrow f x n) (a, q, u) = exprs.Arrow a n

-- ---- numbers of nodes

within : (N : Nodes) (i : ExprId) (f : ℕ) (k : ExprKind) → IsExprAt N i f k → i.0 < length N.exprs
within N i f k (d, at, from, kind) = slice_get_within N.exprs i.0 d at

-- the number of an expression is that of a node
pub expr_inside : (N : Nodes) (i : ExprId) → IsExpr N i → i.0 < length N.exprs
expr_inside N i (Name f n, q, w) = within N i f (exprs.Name n) q
expr_inside N i (Number f v s d, q, w) = within N i f (exprs.Number v s d) q
expr_inside N i (Char f v, q, w) = within N i f (exprs.Char v) q
expr_inside N i (Text f n, q, w) = within N i f (exprs.Text n) q
expr_inside N i (Binary f s x y, (a, b, q, u, v), w) = within N i f (exprs.Binary s a b) q
expr_inside N i (Assign f s x y, (a, b, q, u, v), w) = within N i f (exprs.Assign s a b) q
expr_inside N i (Cond f x y z, (a, b, c, q, t, u, v), w) = within N i f (exprs.Cond a b c) q
expr_inside N i (Prefix f s x, (a, q, u), w) = within N i f (exprs.Prefix s a) q
expr_inside N i (Postfix f s x, (a, q, u), w) = within N i f (exprs.Postfix s a) q
expr_inside N i (SizeofExpr f x, (a, q, u), w) = within N i f (exprs.SizeofExpr a) q
expr_inside N i (SizeofType f d, (a, q, u), w) = within N i f (exprs.SizeofType a) q
expr_inside N i (Cast f d x, (a, b, q, u, v), w) = within N i f (exprs.Cast a b) q
expr_inside N i (Index f x y, (a, b, q, u, v), w) = within N i f (exprs.Index a b) q
expr_inside N i (Call f x xs, (a, is, q, u, v), w) = within N i f (exprs.Call a is) q
expr_inside N i (Member f x n, (a, q, u), w) = within N i f (exprs.Member a n) q
expr_inside N i (Arrow f x n, (a, q, u), w) = within N i f (exprs.Arrow a n) q

-- the operand of an operator before it
pub operand_is : (N : Nodes) (i : ExprId) (e : ExprNode) (s : Sign) (a : ExprId) → expr_at N i ≡ Some e → e.kind ≡ exprs.Prefix s a → IsExpr N i → IsExpr N a
operand_is N i e s a at k (x, h, f) =
    let p = prefix_only N i e.from s a x (e, at, refl, k) h in
    let fits : FitsExpr (Prefix e.from s p.0) = subst FitsExpr p.1 f in
    (p.0, p.2, fits)
