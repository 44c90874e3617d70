-- How many parts statements and values of globals have.
use Rattle.std.proofs.Common.{ℕ, ◌+◌}
use Rattle.c_types_rules.specs.TypedTree as tree
use Rattle.c_types_rules.specs.Initials as initials

abbrev mutual
  pub statement_weight : tree.Statement → ℕ
  statement_weight (tree.Block ss) = 3 + statements_weight ss
  statement_weight (tree.Evaluate v) = 3
  statement_weight (tree.Initialise place t v) = 3
  statement_weight (tree.If v s) = 3 + statement_weight s
  statement_weight (tree.IfElse v s z) = 3 + (statement_weight s + statement_weight z)
  statement_weight (tree.While from v s) = 3 + statement_weight s
  statement_weight (tree.Do from s v) = 3 + statement_weight s
  statement_weight (tree.For from first v last s) = 4 + (statements_weight first + statement_weight s)
  statement_weight tree.Break = 3
  statement_weight tree.Continue = 3
  statement_weight (tree.Return from v) = 3

  pub statements_weight : tree.Statements → ℕ
  statements_weight tree.NoStatements = 1
  statements_weight (tree.MoreStatements s ss) = 1 + (statement_weight s + statements_weight ss)

-- how many parts the value of a global has
abbrev mutual
  pub initial_weight : initials.Initial → ℕ
  initial_weight (initials.Scalar k) = 1
  initial_weight (initials.Bytes bytes) = 1
  initial_weight (initials.Listed xs) = 1 + initials_weight xs

  pub initials_weight : initials.Initials → ℕ
  initials_weight initials.NoInitials = 1
  initials_weight (initials.MoreInitials x xs) = 1 + (initial_weight x + initials_weight xs)
