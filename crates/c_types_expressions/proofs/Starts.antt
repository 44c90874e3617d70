-- Where expressions begin.
use Rattle.std.proofs.Common.{◌≡◌, ℕ, Some, ap, ◌∙◌}
use Rattle.c_syntax.specs.declared.id.ExprId.{ExprId}
use Rattle.c_syntax.specs.declared.expression.Expr.{Expr as ExprNode}
use Rattle.c_syntax.specs.declared.expression.ExprKind.{ExprKind}
use Rattle.c_syntax.specs.declared.expression.ExprKind.TheVariants as exprs
use Rattle.c_syntax.specs.Nodes.{Nodes, expr_at}
use Rattle.c_syntax.specs.Syntax.{Expr, Name, Number, Char, Text, Binary, Assign, Cond, Prefix, Postfix, SizeofExpr, SizeofType, Cast, Index, Call, Member, Arrow}
use Rattle.c_syntax.specs.Stands.{Stands, IsExprAt}
use Rattle.c_types_rules.specs.Expressions.{start_of}

at_is : (N : Nodes) (i : ExprId) (f : ℕ) (k : ExprKind) (e : ExprNode) → IsExprAt N i f k → expr_at N i ≡ Some e → e.from ≡ f
at_is N i f k e (d, at, from, kind) h = let same : e ≡ d = cc in ap (λ n. n.from) same ∙ from

-- a node begins where the expression does
pub start_is : (N : Nodes) (i : ExprId) (x : Expr) (e : ExprNode) → Stands N i x → expr_at N i ≡ Some e → e.from ≡ start_of x
start_is N i (Name f n) e q h = at_is N i f (exprs.Name n) e q h
start_is N i (Number f v s d) e q h = at_is N i f (exprs.Number v s d) e q h
start_is N i (Char f v) e q h = at_is N i f (exprs.Char v) e q h
start_is N i (Text f n) e q h = at_is N i f (exprs.Text n) e q h
start_is N i (Binary f s x y) e (a, b, q, u, v) h = at_is N i f (exprs.Binary s a b) e q h
start_is N i (Assign f s x y) e (a, b, q, u, v) h = at_is N i f (exprs.Assign s a b) e q h
start_is N i (Cond f x y z) e (a, b, c, q, u, v, w) h = at_is N i f (exprs.Cond a b c) e q h
start_is N i (Prefix f s x) e (a, q, u) h = at_is N i f (exprs.Prefix s a) e q h
start_is N i (Postfix f s x) e (a, q, u) h = at_is N i f (exprs.Postfix s a) e q h
start_is N i (SizeofExpr f x) e (a, q, u) h = at_is N i f (exprs.SizeofExpr a) e q h
start_is N i (SizeofType f d) e (a, q, u) h = at_is N i f (exprs.SizeofType a) e q h
start_is N i (Cast f d x) e (a, b, q, u, v) h = at_is N i f (exprs.Cast a b) e q h
start_is N i (Index f x y) e (a, b, q, u, v) h = at_is N i f (exprs.Index a b) e q h
start_is N i (Call f x xs) e (a, is, q, u, v) h = at_is N i f (exprs.Call a is) e q h
start_is N i (Member f x n) e (a, q, u) h = at_is N i f (exprs.Member a n) e q h
start_is N i (Arrow f x n) e (a, q, u) h = at_is N i f (exprs.Arrow a n) e q h
