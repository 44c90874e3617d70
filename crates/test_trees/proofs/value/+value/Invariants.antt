use Rattle.std.proofs.Common.{◌+◌, ◌*◌}
use Rattle.test_trees.proofs.value.+value.Given as goal

abbrev pub decreases-show_value : goal.decreases-show_value
decreases-show_value l = 2 * l.depth

abbrev pub decreases-show_values : goal.decreases-show_values
decreases-show_values l = 2 * l.depth + 1
