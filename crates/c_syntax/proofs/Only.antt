-- What a node says of the tree that its number stands for.
use Rattle.std.proofs.Common.{◌≡◌, ℕ, ℤ, Bool, List, Option, Some, None}
use Rattle.c_lexer.specs.declared.token.Sign.{Sign}
use Rattle.c_lexer.specs.declared.token.Suffix.{Suffix}
use Rattle.c_syntax.specs.declared.id.DeclId.{DeclId}
use Rattle.c_syntax.specs.declared.id.StmtId.{StmtId}
use Rattle.c_syntax.specs.declared.id.ExprId.{ExprId}
use Rattle.c_syntax.specs.declared.expression.ExprKind.TheVariants as exprs
use Rattle.c_syntax.specs.declared.statement.StmtKind.TheVariants as stmts
use Rattle.c_syntax.specs.declared.statement.Entry.{Entry}
use Rattle.c_syntax.specs.declared.statement.First.{First as Begin}
use Rattle.c_syntax.specs.Nodes.{Nodes}
use Rattle.c_syntax.specs.Syntax.{Expr, Exprs, MaybeExpr, Decl, Stmt, Entries, First, Name, Number, Char, Text, Binary, Assign, Cond, Prefix, Postfix, SizeofExpr, SizeofType, Cast, Index, Call, Member, Arrow, Block, Expression, If, IfElse, While, Do, For, Break, Continue, Return}
use Rattle.c_syntax.specs.Stands.{IsExprAt, IsStmtAt, Stands, StandExprs, StandsMaybe, StandsDecl, StandsStmt, StandEntries, StandsFirst}

pub name_only : (N : Nodes) (i : ExprId) (f : ℕ) (n : List ℕ) (e : Expr) → IsExprAt N i f (exprs.Name n) → Stands N i e → (e ≡ Name f n)
name_only N i f n (Name f' n') h k = cc
name_only N i f n _ h k = absurd cc

pub number_only : (N : Nodes) (i : ExprId) (f : ℕ) (v : ℕ) (s : Suffix) (d : Bool) (e : Expr) → IsExprAt N i f (exprs.Number v s d) → Stands N i e → (e ≡ Number f v s d)
number_only N i f v s d (Number f' v' s' d') h k = cc
number_only N i f v s d _ h k = absurd cc

pub char_only : (N : Nodes) (i : ExprId) (f : ℕ) (v : ℤ) (e : Expr) → IsExprAt N i f (exprs.Char v) → Stands N i e → (e ≡ Char f v)
char_only N i f v (Char f' v') h k = cc
char_only N i f v _ h k = absurd cc

pub text_only : (N : Nodes) (i : ExprId) (f : ℕ) (n : List ℕ) (e : Expr) → IsExprAt N i f (exprs.Text n) → Stands N i e → (e ≡ Text f n)
text_only N i f n (Text f' n') h k = cc
text_only N i f n _ h k = absurd cc

pub binary_only : (N : Nodes) (i : ExprId) (f : ℕ) (s : Sign) (a : ExprId) (b : ExprId) (e : Expr) → IsExprAt N i f (exprs.Binary s a b) → Stands N i e → (x : Expr) × (y : Expr) × (e ≡ Binary f s x y) × Stands N a x × Stands N b y
binary_only N i f s a b (Binary f' s' x' y') h (a', b', k, p0, p1) = (x', y', cc, (let e0 : a' ≡ a = cc in rw e0 at p0), (let e1 : b' ≡ b = cc in rw e1 at p1))
binary_only N i f s a b _ h k = absurd cc

pub assign_only : (N : Nodes) (i : ExprId) (f : ℕ) (s : Sign) (a : ExprId) (b : ExprId) (e : Expr) → IsExprAt N i f (exprs.Assign s a b) → Stands N i e → (x : Expr) × (y : Expr) × (e ≡ Assign f s x y) × Stands N a x × Stands N b y
assign_only N i f s a b (Assign f' s' x' y') h (a', b', k, p0, p1) = (x', y', cc, (let e0 : a' ≡ a = cc in rw e0 at p0), (let e1 : b' ≡ b = cc in rw e1 at p1))
assign_only N i f s a b _ h k = absurd cc

pub cond_only : (N : Nodes) (i : ExprId) (f : ℕ) (a : ExprId) (b : ExprId) (c : ExprId) (e : Expr) → IsExprAt N i f (exprs.Cond a b c) → Stands N i e → (x : Expr) × (y : Expr) × (z : Expr) × (e ≡ Cond f x y z) × Stands N a x × Stands N b y × Stands N c z
cond_only N i f a b c (Cond f' x' y' z') h (a', b', c', k, p0, p1, p2) = (x', y', z', cc, (let e0 : a' ≡ a = cc in rw e0 at p0), (let e1 : b' ≡ b = cc in rw e1 at p1), (let e2 : c' ≡ c = cc in rw e2 at p2))
cond_only N i f a b c _ h k = absurd cc

pub prefix_only : (N : Nodes) (i : ExprId) (f : ℕ) (s : Sign) (a : ExprId) (e : Expr) → IsExprAt N i f (exprs.Prefix s a) → Stands N i e → (x : Expr) × (e ≡ Prefix f s x) × Stands N a x
prefix_only N i f s a (Prefix f' s' x') h (a', k, p0) = (x', cc, (let e0 : a' ≡ a = cc in rw e0 at p0))
prefix_only N i f s a _ h k = absurd cc

pub postfix_only : (N : Nodes) (i : ExprId) (f : ℕ) (s : Sign) (a : ExprId) (e : Expr) → IsExprAt N i f (exprs.Postfix s a) → Stands N i e → (x : Expr) × (e ≡ Postfix f s x) × Stands N a x
postfix_only N i f s a (Postfix f' s' x') h (a', k, p0) = (x', cc, (let e0 : a' ≡ a = cc in rw e0 at p0))
postfix_only N i f s a _ h k = absurd cc

pub sizeof_expr_only : (N : Nodes) (i : ExprId) (f : ℕ) (a : ExprId) (e : Expr) → IsExprAt N i f (exprs.SizeofExpr a) → Stands N i e → (x : Expr) × (e ≡ SizeofExpr f x) × Stands N a x
sizeof_expr_only N i f a (SizeofExpr f' x') h (a', k, p0) = (x', cc, (let e0 : a' ≡ a = cc in rw e0 at p0))
sizeof_expr_only N i f a _ h k = absurd cc

pub sizeof_type_only : (N : Nodes) (i : ExprId) (f : ℕ) (a : DeclId) (e : Expr) → IsExprAt N i f (exprs.SizeofType a) → Stands N i e → (x : Decl) × (e ≡ SizeofType f x) × StandsDecl N a x
sizeof_type_only N i f a (SizeofType f' x') h (a', k, p0) = (x', cc, (let e0 : a' ≡ a = cc in rw e0 at p0))
sizeof_type_only N i f a _ h k = absurd cc

pub cast_only : (N : Nodes) (i : ExprId) (f : ℕ) (a : DeclId) (b : ExprId) (e : Expr) → IsExprAt N i f (exprs.Cast a b) → Stands N i e → (x : Decl) × (y : Expr) × (e ≡ Cast f x y) × StandsDecl N a x × Stands N b y
cast_only N i f a b (Cast f' x' y') h (a', b', k, p0, p1) = (x', y', cc, (let e0 : a' ≡ a = cc in rw e0 at p0), (let e1 : b' ≡ b = cc in rw e1 at p1))
cast_only N i f a b _ h k = absurd cc

pub index_only : (N : Nodes) (i : ExprId) (f : ℕ) (a : ExprId) (b : ExprId) (e : Expr) → IsExprAt N i f (exprs.Index a b) → Stands N i e → (x : Expr) × (y : Expr) × (e ≡ Index f x y) × Stands N a x × Stands N b y
index_only N i f a b (Index f' x' y') h (a', b', k, p0, p1) = (x', y', cc, (let e0 : a' ≡ a = cc in rw e0 at p0), (let e1 : b' ≡ b = cc in rw e1 at p1))
index_only N i f a b _ h k = absurd cc

pub call_only : (N : Nodes) (i : ExprId) (f : ℕ) (a : ExprId) (b : List ExprId) (e : Expr) → IsExprAt N i f (exprs.Call a b) → Stands N i e → (x : Expr) × (y : Exprs) × (e ≡ Call f x y) × Stands N a x × StandExprs N b y
call_only N i f a b (Call f' x' y') h (a', b', k, p0, p1) = (x', y', cc, (let e0 : a' ≡ a = cc in rw e0 at p0), (let e1 : b' ≡ b = cc in rw e1 at p1))
call_only N i f a b _ h k = absurd cc

pub member_only : (N : Nodes) (i : ExprId) (f : ℕ) (a : ExprId) (n : List ℕ) (e : Expr) → IsExprAt N i f (exprs.Member a n) → Stands N i e → (x : Expr) × (e ≡ Member f x n) × Stands N a x
member_only N i f a n (Member f' x' n') h (a', k, p0) = (x', cc, (let e0 : a' ≡ a = cc in rw e0 at p0))
member_only N i f a n _ h k = absurd cc

pub arrow_only : (N : Nodes) (i : ExprId) (f : ℕ) (a : ExprId) (n : List ℕ) (e : Expr) → IsExprAt N i f (exprs.Arrow a n) → Stands N i e → (x : Expr) × (e ≡ Arrow f x n) × Stands N a x
arrow_only N i f a n (Arrow f' x' n') h (a', k, p0) = (x', cc, (let e0 : a' ≡ a = cc in rw e0 at p0))
arrow_only N i f a n _ h k = absurd cc

pub block_only : (N : Nodes) (i : StmtId) (f : ℕ) (a : List Entry) (e : Stmt) → IsStmtAt N i f (stmts.Block a) → StandsStmt N i e → (x : Entries) × (e ≡ Block f x) × StandEntries N a x
block_only N i f a (Block f' x') h (a', k, p0) = (x', cc, (let e0 : a' ≡ a = cc in rw e0 at p0))
block_only N i f a _ h k = absurd cc

pub expression_only : (N : Nodes) (i : StmtId) (f : ℕ) (a : Option ExprId) (e : Stmt) → IsStmtAt N i f (stmts.Expr a) → StandsStmt N i e → (x : MaybeExpr) × (e ≡ Expression f x) × StandsMaybe N a x
expression_only N i f a (Expression f' x') h (a', k, p0) = (x', cc, (let e0 : a' ≡ a = cc in rw e0 at p0))
expression_only N i f a _ h k = absurd cc

pub if_only : (N : Nodes) (i : StmtId) (f : ℕ) (a : ExprId) (b : StmtId) (e : Stmt) → IsStmtAt N i f (stmts.If a b None) → StandsStmt N i e → (x : Expr) × (y : Stmt) × (e ≡ If f x y) × Stands N a x × StandsStmt N b y
if_only N i f a b (If f' x' y') h (a', b', k, p0, p1) = (x', y', cc, (let e0 : a' ≡ a = cc in rw e0 at p0), (let e1 : b' ≡ b = cc in rw e1 at p1))
if_only N i f a b _ h k = absurd cc

pub if_else_only : (N : Nodes) (i : StmtId) (f : ℕ) (a : ExprId) (b : StmtId) (c : StmtId) (e : Stmt) → IsStmtAt N i f (stmts.If a b (Some c)) → StandsStmt N i e → (x : Expr) × (y : Stmt) × (z : Stmt) × (e ≡ IfElse f x y z) × Stands N a x × StandsStmt N b y × StandsStmt N c z
if_else_only N i f a b c (IfElse f' x' y' z') h (a', b', c', k, p0, p1, p2) = (x', y', z', cc, (let e0 : a' ≡ a = cc in rw e0 at p0), (let e1 : b' ≡ b = cc in rw e1 at p1), (let e2 : c' ≡ c = cc in rw e2 at p2))
if_else_only N i f a b c _ h k = absurd cc

pub while_only : (N : Nodes) (i : StmtId) (f : ℕ) (a : ExprId) (b : StmtId) (e : Stmt) → IsStmtAt N i f (stmts.While a b) → StandsStmt N i e → (x : Expr) × (y : Stmt) × (e ≡ While f x y) × Stands N a x × StandsStmt N b y
while_only N i f a b (While f' x' y') h (a', b', k, p0, p1) = (x', y', cc, (let e0 : a' ≡ a = cc in rw e0 at p0), (let e1 : b' ≡ b = cc in rw e1 at p1))
while_only N i f a b _ h k = absurd cc

pub do_only : (N : Nodes) (i : StmtId) (f : ℕ) (a : StmtId) (b : ExprId) (e : Stmt) → IsStmtAt N i f (stmts.Do a b) → StandsStmt N i e → (x : Stmt) × (y : Expr) × (e ≡ Do f x y) × StandsStmt N a x × Stands N b y
do_only N i f a b (Do f' x' y') h (a', b', k, p0, p1) = (x', y', cc, (let e0 : a' ≡ a = cc in rw e0 at p0), (let e1 : b' ≡ b = cc in rw e1 at p1))
do_only N i f a b _ h k = absurd cc

pub for_only : (N : Nodes) (i : StmtId) (f : ℕ) (a : Begin) (b : Option ExprId) (c : Option ExprId) (d : StmtId) (e : Stmt) → IsStmtAt N i f (stmts.For a b c d) → StandsStmt N i e → (x : First) × (y : MaybeExpr) × (z : MaybeExpr) × (w : Stmt) × (e ≡ For f x y z w) × StandsFirst N a x × StandsMaybe N b y × StandsMaybe N c z × StandsStmt N d w
for_only N i f a b c d (For f' x' y' z' w') h (a', b', c', d', k, p0, p1, p2, p3) = (x', y', z', w', cc, (let e0 : a' ≡ a = cc in rw e0 at p0), (let e1 : b' ≡ b = cc in rw e1 at p1), (let e2 : c' ≡ c = cc in rw e2 at p2), (let e3 : d' ≡ d = cc in rw e3 at p3))
for_only N i f a b c d _ h k = absurd cc

pub break_only : (N : Nodes) (i : StmtId) (f : ℕ) (e : Stmt) → IsStmtAt N i f stmts.Break → StandsStmt N i e → (e ≡ Break f)
break_only N i f (Break f') h k = cc
break_only N i f _ h k = absurd cc

pub continue_only : (N : Nodes) (i : StmtId) (f : ℕ) (e : Stmt) → IsStmtAt N i f stmts.Continue → StandsStmt N i e → (e ≡ Continue f)
continue_only N i f (Continue f') h k = cc
continue_only N i f _ h k = absurd cc

pub return_only : (N : Nodes) (i : StmtId) (f : ℕ) (a : Option ExprId) (e : Stmt) → IsStmtAt N i f (stmts.Return a) → StandsStmt N i e → (x : MaybeExpr) × (e ≡ Return f x) × StandsMaybe N a x
return_only N i f a (Return f' x') h (a', k, p0) = (x', cc, (let e0 : a' ≡ a = cc in rw e0 at p0))
return_only N i f a _ h k = absurd cc
