-- The nodes that a node names are lower than it.
use Rattle.std.proofs.Common.{◌≡◌, ◌<◌, ◌⊎◌, inl, inr, ℕ, ◌+◌, ◌*◌, [], length, ap, arith}
use Rattle.std.proofs.lemmas.Bool.{cases_lt}
use Rattle.std.proofs.lemmas.Option.{slice_get_past}
use Rattle.c_syntax.specs.declared.id.DeclId.{DeclId}
use Rattle.c_syntax.specs.declared.id.StmtId.{StmtId}
use Rattle.c_syntax.specs.declared.id.ExprId.{ExprId}
use Rattle.c_syntax.specs.Nodes.{Nodes}
use Rattle.c_syntax_laws.specs.declared.node.Node.{Node}
use Rattle.c_syntax_laws.specs.declared.node.Node.TheVariants as nodes
use Rattle.c_syntax_laws.specs.Named.{by_expr_node, by_decl_node, by_stmt_node, named_by}
use Rattle.c_syntax.specs.Syntax.{Expr, Decl, Stmt}
use Rattle.c_syntax.specs.Stands.{Stands, StandsDecl, StandsStmt}
use Rattle.c_syntax_laws.specs.Walks.{Falls}
use Rattle.c_syntax_laws.proofs.Ends.{expr_ends, decl_ends, stmt_ends}
use Rattle.c_syntax_laws.proofs.Falls.{falls}

number : Node → ℕ
number (nodes.Expr i) = 3 * i.0
number (nodes.Decl i) = 3 * i.0 + 1
number (nodes.Stmt i) = 3 * i.0 + 2

one : (v w : Node) → number v ≡ number w → v ≡ w
unfolding number
one (nodes.Expr i) (nodes.Expr j) h = let e : i.0 ≡ j.0 = omega arith in ap (λ n. nodes.Expr (record { 0 = n })) e
one (nodes.Decl i) (nodes.Decl j) h = let e : i.0 ≡ j.0 = omega arith in ap (λ n. nodes.Decl (record { 0 = n })) e
one (nodes.Stmt i) (nodes.Stmt j) h = let e : i.0 ≡ j.0 = omega arith in ap (λ n. nodes.Stmt (record { 0 = n })) e
one _ _ h = absurd (omega arith)

inside : (N : Nodes) (v : Node) → (number v < 3 * (length N.exprs + length N.decls + length N.stmts)) ⊎ (named_by N v ≡ [])
unfolding number
inside N (nodes.Expr i) = elim (cases_lt i.0 (length N.exprs)) [ inl h ↦ inl (omega arith) | inr h ↦ inr (ap by_expr_node (slice_get_past N.exprs i.0 h)) ]
inside N (nodes.Decl i) = elim (cases_lt i.0 (length N.decls)) [ inl h ↦ inl (omega arith) | inr h ↦ inr (ap by_decl_node (slice_get_past N.decls i.0 h)) ]
inside N (nodes.Stmt i) = elim (cases_lt i.0 (length N.stmts)) [ inl h ↦ inl (omega arith) | inr h ↦ inr (ap by_stmt_node (slice_get_past N.stmts i.0 h)) ]

pub expr_falls : (N : Nodes) (i : ExprId) (x : Expr) → Stands N i x → Falls N (nodes.Expr i)
expr_falls N i x h = falls (named_by N) number one _ (inside N) (expr_ends N i x h)

pub decl_falls : (N : Nodes) (i : DeclId) (d : Decl) → StandsDecl N i d → Falls N (nodes.Decl i)
decl_falls N i d h = falls (named_by N) number one _ (inside N) (decl_ends N i d h)

pub stmt_falls : (N : Nodes) (i : StmtId) (s : Stmt) → StandsStmt N i s → Falls N (nodes.Stmt i)
stmt_falls N i s h = falls (named_by N) number one _ (inside N) (stmt_ends N i s h)
