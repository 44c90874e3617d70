-- The statements that a statement holds are lower than it.
use Rattle.std.proofs.Common.{◌≡◌, ℕ, zero, suc, ◌<◌, ◌≤◌, List, [], ◌∷◌, ◌++◌, length, get_or, Option, None, Some, sym, ap, ◌∙◌, arith, subst}
use Rattle.c_syntax.specs.declared.id.ExprId.{ExprId}
use Rattle.c_syntax.specs.declared.id.StmtId.{StmtId}
use Rattle.c_syntax.specs.declared.statement.Stmt.{Stmt as StmtNode}
use Rattle.c_syntax.specs.declared.statement.StmtKind.{StmtKind}
use Rattle.c_syntax.specs.declared.statement.StmtKind.TheVariants as stmts
use Rattle.c_syntax.specs.declared.statement.Entry.{Entry}
use Rattle.c_syntax.specs.declared.statement.Entry.TheVariants as items
use Rattle.c_syntax.specs.declared.statement.First.{First}
use Rattle.c_syntax.specs.Nodes.{Nodes, stmt_at}
use Rattle.c_syntax_laws.specs.Heights.{greatest}
use Rattle.c_syntax_laws.specs.declared.node.Node.{Node}
use Rattle.c_syntax_laws.specs.declared.node.Node.TheVariants.{Stmt as AStmt}
use Rattle.c_syntax_laws.specs.Named.{by_entries, by_entry, by_first, by_maybe, by_stmt, by_stmt_node, height_in}
use Rattle.c_syntax_laws.proofs.Lower.{stmt_falls}
use Rattle.c_types_expressions.proofs.Lists.{greatest_of_joined}
use Rattle.c_types_statements.specs.Walks.{IsStmt}

-- the height of a statement, and the greatest of what stands in a block
abbrev pub height_of : Nodes → StmtId → ℕ
height_of N i = height_in N (AStmt i)

abbrev pub greatest_of : Nodes → List Entry → ℕ
greatest_of N vs = greatest (height_in N) (by_entries vs)

module _ (N : Nodes) (i : StmtId) (node : StmtNode) (stands : IsStmt N i) (at : stmt_at N i ≡ Some node) where
  falls_to : (kind : StmtKind) → node.kind ≡ kind → greatest (height_in N) (by_stmt kind) < height_of N i
  falls_to kind e =
      let P : List Node → Type 0 = λ vs. greatest (height_in N) vs < height_of N i in
      subst P (ap by_stmt_node at ∙ ap by_stmt e) (stmt_falls N i stands.0 stands.1)

  pub block_falls : (vs : List Entry) → node.kind ≡ stmts.Block vs → greatest_of N vs < height_of N i
  block_falls vs e = falls_to (stmts.Block vs) e

  pub if_falls : (a : ExprId) (b : StmtId) → node.kind ≡ stmts.If a b None → height_of N b < height_of N i
  if_falls a b e = omega (arith, falls_to (stmts.If a b None) e)

  pub if_else_falls : (a : ExprId) (b c : StmtId) → node.kind ≡ stmts.If a b (Some c) → greatest (height_in N) (AStmt b ∷ AStmt c ∷ []) < height_of N i
  if_else_falls a b c e = omega (arith, falls_to (stmts.If a b (Some c)) e)

  pub while_falls : (a : ExprId) (b : StmtId) → node.kind ≡ stmts.While a b → height_of N b < height_of N i
  while_falls a b e = omega (arith, falls_to (stmts.While a b) e)

  pub do_falls : (a : StmtId) (b : ExprId) → node.kind ≡ stmts.Do a b → height_of N a < height_of N i
  do_falls a b e = omega (arith, falls_to (stmts.Do a b) e)

  pub for_falls : (a : First) (b c : Option ExprId) (d : StmtId) → node.kind ≡ stmts.For a b c d → height_of N d < height_of N i
  for_falls a b c d e =
      let f = height_in N in
      let last = AStmt d ∷ [] in
      omega (arith, falls_to (stmts.For a b c d) e, greatest_of_joined f (by_first a) (by_maybe b ++ (by_maybe c ++ last)), greatest_of_joined f (by_maybe b) (by_maybe c ++ last), greatest_of_joined f (by_maybe c) last)

-- ---- what is in a block

pub entry_falls : (N : Nodes) (vs : List Entry) (k : ℕ) (d : Entry) → k < length vs → greatest_of N (get_or vs k d ∷ []) ≤ greatest_of N vs
entry_falls N [] k d h = absurd (omega arith)
entry_falls N (v ∷ vs) zero d h = omega (arith, greatest_of_joined (height_in N) (by_entry v) [], greatest_of_joined (height_in N) (by_entry v) (by_entries vs))
entry_falls N (v ∷ vs) (suc k) d h = omega (arith, entry_falls N vs k d (omega arith), greatest_of_joined (height_in N) (by_entry v) (by_entries vs))

pub statement_falls : (N : Nodes) (v : Entry) (i : StmtId) → v ≡ items.Stmt i → height_of N i ≤ greatest_of N (v ∷ [])
statement_falls N v i e = let P : Entry → Type 0 = λ z. height_of N i ≤ greatest_of N (z ∷ []) in subst P (sym e) (omega arith)
