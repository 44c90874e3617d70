-- The nodes of a tree, in three lists.
use Rattle.std.specs.Prelude.{List, Option, slice_get}
use Rattle.c_syntax.specs.declared.id.DeclId.{DeclId}
use Rattle.c_syntax.specs.declared.id.StmtId.{StmtId}
use Rattle.c_syntax.specs.declared.id.ExprId.{ExprId}
use Rattle.c_syntax.specs.declared.declaration.Decl.{Decl}
use Rattle.c_syntax.specs.declared.statement.Stmt.{Stmt}
use Rattle.c_syntax.specs.declared.expression.Expr.{Expr}

pub record Nodes : Type 0 where
  pub decls : List Decl
  pub stmts : List Stmt
  pub exprs : List Expr
  pub tops : List DeclId

-- the declaration of this number
abbrev pub decl_at : Nodes → DeclId → Option Decl
decl_at N i = slice_get N.decls i.0

-- the statement of this number
abbrev pub stmt_at : Nodes → StmtId → Option Stmt
stmt_at N i = slice_get N.stmts i.0

-- the expression of this number
abbrev pub expr_at : Nodes → ExprId → Option Expr
expr_at N i = slice_get N.exprs i.0
