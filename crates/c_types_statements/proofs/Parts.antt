-- What the nodes of statements name stands for parts of a source too.
use Rattle.std.proofs.Common.{◌≡◌, ◌<◌, List, length, Some, None, refl, sym, subst}
use Rattle.std.proofs.lemmas.Option.{slice_get_within}
use Rattle.c_syntax.specs.declared.id.DeclId.{DeclId}
use Rattle.c_syntax.specs.declared.id.StmtId.{StmtId}
use Rattle.c_syntax.specs.declared.id.ExprId.{ExprId}
use Rattle.c_syntax.specs.declared.declaration.Decl.{Decl as DeclNode}
use Rattle.c_syntax.specs.declared.statement.Stmt.{Stmt as StmtNode}
use Rattle.c_syntax.specs.declared.statement.StmtKind.{StmtKind}
use Rattle.c_syntax.specs.declared.statement.StmtKind.TheVariants as stmts
use Rattle.c_syntax.specs.declared.statement.Entry.{Entry}
use Rattle.c_syntax.specs.declared.statement.Entry.TheVariants as items
use Rattle.c_syntax.specs.declared.statement.First.{First as Begin}
use Rattle.c_syntax.specs.declared.statement.First.TheVariants as firsts
use Rattle.c_syntax.specs.Nodes.{Nodes, decl_at, stmt_at}
use Rattle.c_syntax.specs.Syntax.{Stmt, Entry as Stood, NoExpr, OneExpr, Declare, Block, Expression, If, IfElse, While, Do, For, Break, Continue, Return, LocalEntry, StmtEntry, NoFirst, LocalFirst, ExprFirst}
use Rattle.c_syntax.specs.Stands.{StandsStmt, StandsEntry}
use Rattle.c_syntax_laws.specs.Numbers.{FitsStmt}
use Rattle.c_types_rules.specs.Statements.{start_of_stmt}
use Rattle.c_types_expressions.specs.Walks.{IsExpr, IsDecl, AreDecls}
use Rattle.c_types_statements.specs.Walks.{IsMaybeExpr, IsRest, IsStmt, IsEntry, AreEntries, IsFirst}

-- the numbers in a statement's node stand for its parts
abbrev pub KindFits : Nodes → StmtKind → Type 0
KindFits N (stmts.Block vs) = AreEntries N vs
KindFits N (stmts.Expr a) = IsMaybeExpr N a
KindFits N (stmts.If a b None) = IsExpr N a × IsStmt N b
KindFits N (stmts.If a b (Some c)) = IsExpr N a × IsStmt N b × IsStmt N c
KindFits N (stmts.While a b) = IsExpr N a × IsStmt N b
KindFits N (stmts.Do a b) = IsStmt N a × IsExpr N b
KindFits N (stmts.For a b c d) = IsFirst N a × IsMaybeExpr N b × IsMaybeExpr N c × IsStmt N d
KindFits N stmts.Break = Unit {0}
KindFits N stmts.Continue = Unit {0}
KindFits N (stmts.Return a) = IsMaybeExpr N a

-- the node of the number, and that its numbers stand for its parts
stmt_of : (N : Nodes) (i : StmtId) (x : Stmt) → StandsStmt N i x → FitsStmt x → (s : StmtNode) × (stmt_at N i ≡ Some s) × KindFits N s.kind
stmt_of N i (Block f es) (vs, (s, g, _, k), p) n = (s, g, subst (KindFits N) (sym k) (es, p, n))
stmt_of N i (Expression f x) (a, (s, g, _, k), p) n = (s, g, subst (KindFits N) (sym k) (x, p, n))
stmt_of N i (If f x y) (a, b, (s, g, _, k), p, q) n = (s, g, subst (KindFits N) (sym k) ((x, p, n.0), (y, q, n.1)))
stmt_of N i (IfElse f x y z) (a, b, c, (s, g, _, k), p, q, r) n = (s, g, subst (KindFits N) (sym k) ((x, p, n.0), (y, q, n.1), (z, r, n.2)))
stmt_of N i (While f x y) (a, b, (s, g, _, k), p, q) n = (s, g, subst (KindFits N) (sym k) ((x, p, n.0), (y, q, n.1)))
stmt_of N i (Do f y x) (a, b, (s, g, _, k), p, q) n = (s, g, subst (KindFits N) (sym k) ((y, p, n.0), (x, q, n.1)))
stmt_of N i (For f x y z w) (a, b, c, d, (s, g, _, k), p, q, r, t) n = (s, g, subst (KindFits N) (sym k) ((x, p, n.0), (y, q, n.1), (z, r, n.2), (w, t, n.3)))
stmt_of N i (Break f) (s, g, _, k) n = (s, g, subst (KindFits N) (sym k) tt)
stmt_of N i (Continue f) (s, g, _, k) n = (s, g, subst (KindFits N) (sym k) tt)
stmt_of N i (Return f x) (a, (s, g, _, k), p) n = (s, g, subst (KindFits N) (sym k) (x, p, n))

pub stmt_inside : (N : Nodes) (i : StmtId) → IsStmt N i → i.0 < length N.stmts
stmt_inside N i (x, h, n) = let r = stmt_of N i x h n in slice_get_within N.stmts i.0 r.0 r.1

-- the node of a statement begins where the statement does
stmt_from : (N : Nodes) (i : StmtId) (x : Stmt) → StandsStmt N i x → (s : StmtNode) × (stmt_at N i ≡ Some s) × (s.from ≡ start_of_stmt x)
stmt_from N i (Block f es) (_, (s, g, b, k), p) = (s, g, b)
stmt_from N i (Expression f x) (_, (s, g, b, k), p) = (s, g, b)
stmt_from N i (If f x y) (_, _, (s, g, b, k), p, q) = (s, g, b)
stmt_from N i (IfElse f x y z) (_, _, _, (s, g, b, k), p, q, r) = (s, g, b)
stmt_from N i (While f x y) (_, _, (s, g, b, k), p, q) = (s, g, b)
stmt_from N i (Do f y x) (_, _, (s, g, b, k), p, q) = (s, g, b)
stmt_from N i (For f x y z w) (_, _, _, _, (s, g, b, k), p, q, r, t) = (s, g, b)
stmt_from N i (Break f) (s, g, b, k) = (s, g, b)
stmt_from N i (Continue f) (s, g, b, k) = (s, g, b)
stmt_from N i (Return f x) (_, (s, g, b, k), p) = (s, g, b)

pub stmt_starts : (N : Nodes) (i : StmtId) (s : StmtNode) (x : Stmt) → stmt_at N i ≡ Some s → StandsStmt N i x → s.from ≡ start_of_stmt x
stmt_starts N i s x g h = let r = stmt_from N i x h in let same : r.0 ≡ s = cc in subst (λ (v : StmtNode). v.from ≡ start_of_stmt x) same r.2

pub kind_fits : (N : Nodes) (i : StmtId) (s : StmtNode) → IsStmt N i → stmt_at N i ≡ Some s → KindFits N s.kind
kind_fits N i s (x, h, n) g = let r = stmt_of N i x h n in let same : r.0 ≡ s = cc in subst (λ (v : StmtNode). KindFits N v.kind) same r.2

-- ---- expressions

pub maybe_is : (N : Nodes) (i : ExprId) → IsMaybeExpr N (Some i) → IsExpr N i
maybe_is N i (NoExpr, e, n) = absurd cc
maybe_is N i (OneExpr x, (j, e, p), n) = let same : j ≡ i = cc in subst (IsExpr N) same (x, p, n)

-- ---- declarations

pub rest_is : (N : Nodes) (i : DeclId) (d : DeclNode) → IsDecl N i → decl_at N i ≡ Some d → IsRest N d.rest
rest_is N i d (Declare f an b ps n r, (e, g, _, _, _, _, _, q), fits) h = let same : e ≡ d = cc in subst (λ (v : DeclNode). IsRest N v.rest) same (r, q, fits.2)

-- ---- what is in a block

-- the numbers in an entry of a block stand for its parts
abbrev pub EntryFits : Nodes → Entry → Type 0
EntryFits N (items.Local is) = AreDecls N is
EntryFits N (items.Stmt i) = IsStmt N i

pub entry_fits : (N : Nodes) (v : Entry) → IsEntry N v → EntryFits N v
entry_fits N v (LocalEntry ds, (is, e, p), n) = subst (EntryFits N) (sym e) (ds, p, n)
entry_fits N v (StmtEntry s, (i, e, p), n) = subst (EntryFits N) (sym e) (s, p, n)

pub local_ids : (N : Nodes) (v : Entry) (is : List DeclId) → v ≡ items.Local is → IsEntry N v → AreDecls N is
local_ids N v is e h = subst (EntryFits N) e (entry_fits N v h)

pub statement_id : (N : Nodes) (v : Entry) (i : StmtId) → v ≡ items.Stmt i → IsEntry N v → IsStmt N i
statement_id N v i e h = subst (EntryFits N) e (entry_fits N v h)

-- what the number of a statement in a block stands for
pub statement_entry : (N : Nodes) (v : Entry) (i : StmtId) → v ≡ items.Stmt i → (e : Stood) → StandsEntry N v e → (s : Stmt) × (e ≡ StmtEntry s) × StandsStmt N i s
statement_entry N v i e (LocalEntry ds) (js, k, p) = absurd cc
statement_entry N v i e (StmtEntry s) (j, k, p) = let same : j ≡ i = cc in let P : StmtId → Type 0 = λ z. StandsStmt N z s in (s, refl, subst P same p)

-- the numbers in the first part of a `for` stand for its parts
abbrev pub FirstFits : Nodes → Begin → Type 0
FirstFits N firsts.None = Unit {0}
FirstFits N (firsts.Local is) = AreDecls N is
FirstFits N (firsts.Expr i) = IsExpr N i

pub first_fits : (N : Nodes) (v : Begin) → IsFirst N v → FirstFits N v
first_fits N v (NoFirst, e, n) = subst (FirstFits N) (sym e) tt
first_fits N v (LocalFirst ds, (is, e, p), n) = subst (FirstFits N) (sym e) (ds, p, n)
first_fits N v (ExprFirst x, (i, e, p), n) = subst (FirstFits N) (sym e) (x, p, n)

pub first_ids : (N : Nodes) (v : Begin) (is : List DeclId) → v ≡ firsts.Local is → IsFirst N v → AreDecls N is
first_ids N v is e h = subst (FirstFits N) e (first_fits N v h)

pub first_expr : (N : Nodes) (v : Begin) (i : ExprId) → v ≡ firsts.Expr i → IsFirst N v → IsExpr N i
first_expr N v i e h = subst (FirstFits N) e (first_fits N v h)
