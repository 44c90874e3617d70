use Rattle.c_types_nodes.specs.Tables.{object_at, value_at}
use Rattle.lockset_check_values.proofs.Weights.{object_weight, value_weight}
use Rattle.lockset_check_values.proofs.walker.Walker.+roots.Given as goal

abbrev pub decreases-root : goal.decreases-root
decreases-root l = object_weight (object_at l.self.now.program.table l.object)

abbrev pub decreases-array_root : goal.decreases-array_root
decreases-array_root l = value_weight (value_at l.self.now.program.table l.pointer)
