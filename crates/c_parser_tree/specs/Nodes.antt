-- Nodes with one more at the end of a list.
use Rattle.std.specs.Prelude.{[], ◌∷◌, ◌++◌}
use Rattle.c_syntax.specs.declared.expression.Expr.{Expr}
use Rattle.c_syntax.specs.declared.statement.Stmt.{Stmt}
use Rattle.c_syntax.specs.declared.declaration.Decl.{Decl}
use Rattle.c_syntax.specs.Nodes.{Nodes}

abbrev pub no_nodes : Nodes
no_nodes = record { decls = []; stmts = []; exprs = []; tops = [] }

abbrev pub with_expr : Nodes → Expr → Nodes
with_expr N e = record { decls = N.decls; stmts = N.stmts; exprs = N.exprs ++ e ∷ []; tops = N.tops }

abbrev pub with_stmt : Nodes → Stmt → Nodes
with_stmt N s = record { decls = N.decls; stmts = N.stmts ++ s ∷ []; exprs = N.exprs; tops = N.tops }

abbrev pub with_decl : Nodes → Decl → Nodes
with_decl N d = record { decls = N.decls ++ d ∷ []; stmts = N.stmts; exprs = N.exprs; tops = N.tops }
