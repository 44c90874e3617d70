use Rattle.std.proofs.Common.{◌+◌}
use Rattle.c_types_nodes.specs.Parts.{values}
use Rattle.c_types_nodes.specs.Tables.{callee_at, made_in, node_at, object_at, typed_of, value_at}
use Rattle.cut_graph_mentions.proofs.Weights.{callee_weight, object_weight, value_weight, values_weight, weight}
use Rattle.cut_graph_mentions.proofs.values.+values.Given as goal

abbrev pub decreases-node : goal.decreases-node
decreases-node l = 1 + weight (node_at l.table.now l.id)

abbrev pub decreases-parts : goal.decreases-parts
decreases-parts l = weight (made_in l.table.now l.node.now)

abbrev pub decreases-value : goal.decreases-value
decreases-value l = 2 + value_weight (value_at l.table.now l.id)

abbrev pub decreases-object : goal.decreases-object
decreases-object l = 2 + object_weight (object_at l.table.now l.id)

abbrev pub decreases-callee : goal.decreases-callee
decreases-callee l = 2 + callee_weight (callee_at l.table.now l.id)

abbrev pub decreases-pair : goal.decreases-pair
decreases-pair l = 3 + (value_weight (value_at l.table.now l.left) + value_weight (value_at l.table.now l.right))

abbrev pub decreases-element : goal.decreases-element
decreases-element l = 3 + (value_weight (value_at l.table.now l.pointer) + value_weight (value_at l.table.now l.index))

abbrev pub decreases-address : goal.decreases-address
decreases-address l = 3 + object_weight (object_at l.table.now l.part)

abbrev pub decreases-changed : goal.decreases-changed
decreases-changed l = 3 + object_weight (object_at l.table.now l.part)

abbrev pub decreases-choice : goal.decreases-choice
decreases-choice l = 4 + (value_weight (value_at l.table.now l.condition) + (value_weight (value_at l.table.now l.then) + value_weight (value_at l.table.now l.other)))

abbrev pub decreases-assigned : goal.decreases-assigned
decreases-assigned l = 4 + (object_weight (object_at l.table.now l.left) + value_weight (value_at l.table.now l.right))

abbrev pub decreases-call : goal.decreases-call
decreases-call l = 4 + (callee_weight (callee_at l.table.now l.function) + values_weight (values (typed_of l.table.now) l.arguments.now))

abbrev pub decreases-values : goal.decreases-values
decreases-values l = values_weight (values (typed_of l.table.now) l.ids.now)
