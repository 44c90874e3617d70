use Rattle.std.proofs.Common.{◌+◌, ◌*◌}
use Rattle.test_trees.proofs.statement.+statement.Given as goal

-- a call below a node goes one down; calls at one depth go from the greatest to the least
abbrev pub decreases-show_stmt : goal.decreases-show_stmt
decreases-show_stmt l = 5 * l.depth

abbrev pub decreases-show_after : goal.decreases-show_after
decreases-show_after l = 5 * l.depth + 1

abbrev pub decreases-show_entry : goal.decreases-show_entry
decreases-show_entry l = 5 * l.depth + 2

abbrev pub decreases-show_entries : goal.decreases-show_entries
decreases-show_entries l = 5 * l.depth + 3

abbrev pub decreases-show_kind : goal.decreases-show_kind
decreases-show_kind l = 5 * l.depth + 4
