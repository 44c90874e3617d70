use Rattle.std.proofs.Common.{◌≡◌, ◌+◌, drop}
use Rattle.c_types_nodes.specs.Parts.{values}
use Rattle.c_types_nodes.specs.Tables.{node_at, object_at, typed_of, value_at}
use Rattle.c_lower_bodies.proofs.Weights.{object_weight, value_weight, values_weight, weight}
use Rattle.c_lower_placement.specs.Heights.{values_depth}
use Rattle.c_lower.specs.Depths.{capped}
use Rattle.c_lower.proofs.depth.+depth.Given as goal

abbrev pub invariant-values_depth-loop-i : goal.invariant-values_depth-loop-i
invariant-values_depth-loop-i l = l.waiting ≡ capped (values_depth (values (typed_of l.table) (drop l.i l.ids)))

abbrev pub decreases-node_depth : goal.decreases-node_depth
decreases-node_depth l = weight (node_at l.table.now l.id)

abbrev pub decreases-value_depth : goal.decreases-value_depth
decreases-value_depth l = 1 + value_weight (value_at l.table.now l.id)

abbrev pub decreases-object_depth : goal.decreases-object_depth
decreases-object_depth l = 1 + object_weight (object_at l.table.now l.id)

abbrev pub decreases-values_depth : goal.decreases-values_depth
decreases-values_depth l = values_weight (values (typed_of l.table.now) l.ids.now)

abbrev pub decreases-call_depth : goal.decreases-call_depth
decreases-call_depth l = 1 + (weight (node_at l.table.now l.callee) + values_weight (values (typed_of l.table.now) l.arguments.now))
