-- What statements stand for, whose values and types are in a table.
use Rattle.std.specs.Prelude.{List, [], ◌∷◌, length, Option, Some, None}
use Rattle.c_types_table.specs.Tables.{type_at, IsBelow}
use Rattle.c_types_rules.specs.TypedTree as tree
use Rattle.c_types_rules.specs.TypedTree.{MaybeValue, NoValue, OneValue, NoStatements, MoreStatements}
use Rattle.c_types_nodes.specs.declared.ids.NodeId.{NodeId}
use Rattle.c_types_nodes.specs.Tables.{Table, IsValueAt, value_at}
use Rattle.c_types_program.specs.declared.statement.Statement.{Statement, Row_of-Statement, end_of-Statement, more_of-Statement}
use Rattle.c_types_program.specs.declared.statement.Statement as statements

-- the value of a number, where there is one
abbrev pub maybe_at : Table → Option NodeId → MaybeValue
maybe_at t None = NoValue
maybe_at t (Some id) = OneValue (value_at t id)

abbrev mutual
  -- what a statement stands for
  pub statement_in : Table → Statement → tree.Statement
  statement_in t (statements.Block' shape ss) = tree.Block (row_in t ss)
  statement_in t (statements.Evaluate v) = tree.Evaluate (value_at t v)
  statement_in t (statements.Initialise place ty v) =
      tree.Initialise place (type_at t.types ty) (value_at t v)
  statement_in t (statements.If' v p s) = tree.If (value_at t v) (statement_in t s)
  statement_in t (statements.IfElse' v p s q z) =
      tree.IfElse (value_at t v) (statement_in t s) (statement_in t z)
  statement_in t (statements.While' from v p s) = tree.While from (value_at t v) (statement_in t s)
  statement_in t (statements.Do' from p s v) = tree.Do from (statement_in t s) (value_at t v)
  statement_in t (statements.For' from shape first v last p s) =
      tree.For from (row_in t first) (maybe_at t v) (maybe_at t last) (statement_in t s)
  statement_in t statements.Break = tree.Break
  statement_in t statements.Continue = tree.Continue
  statement_in t (statements.Return from v) = tree.Return from (maybe_at t v)

  -- what the statements in a vector stand for, one after another
  pub row_in : {m : _} → Table → Row_of-Statement m → tree.Statements
  row_in t end_of-Statement = NoStatements
  row_in t (more_of-Statement s ss) = MoreStatements (statement_in t s) (row_in t ss)

-- the same of a list
abbrev pub statements_in : Table → List Statement → tree.Statements
statements_in t [] = NoStatements
statements_in t (s ∷ ss) = MoreStatements (statement_in t s) (statements_in t ss)

-- the number is that of a value, where there is one
abbrev pub IsMaybeAt : Table → Option NodeId → Type 0
IsMaybeAt t None = Unit {0}
IsMaybeAt t (Some id) = IsValueAt t id

abbrev mutual
  -- all numbers in a statement are those of values and types of the table
  pub IsStatement : Table → Statement → Type 0
  IsStatement t (statements.Block' shape ss) = AreStatements t ss
  IsStatement t (statements.Evaluate v) = IsValueAt t v
  IsStatement t (statements.Initialise place ty v) = IsBelow (length t.types) ty × IsValueAt t v
  IsStatement t (statements.If' v p s) = IsValueAt t v × IsStatement t s
  IsStatement t (statements.IfElse' v p s q z) = IsValueAt t v × IsStatement t s × IsStatement t z
  IsStatement t (statements.While' from v p s) = IsValueAt t v × IsStatement t s
  IsStatement t (statements.Do' from p s v) = IsStatement t s × IsValueAt t v
  IsStatement t (statements.For' from shape first v last p s) = AreStatements t first × IsMaybeAt t v ×
      IsMaybeAt t last × IsStatement t s
  IsStatement t statements.Break = Unit {0}
  IsStatement t statements.Continue = Unit {0}
  IsStatement t (statements.Return from v) = IsMaybeAt t v

  -- the same of the statements in a vector
  pub AreStatements : {m : _} → Table → Row_of-Statement m → Type 0
  AreStatements t end_of-Statement = Unit {0}
  AreStatements t (more_of-Statement s ss) = IsStatement t s × AreStatements t ss

-- the same of a list
abbrev pub AllStatements : Table → List Statement → Type 0
AllStatements t [] = Unit {0}
AllStatements t (s ∷ ss) = IsStatement t s × AllStatements t ss
