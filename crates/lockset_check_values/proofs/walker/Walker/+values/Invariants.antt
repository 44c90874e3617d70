use Rattle.std.proofs.Common.{◌+◌}
use Rattle.c_types_nodes.specs.Parts.{values}
use Rattle.c_types_nodes.specs.Tables.{callee_at, node_at, object_at, typed_of, value_at}
use Rattle.lockset_check_values.proofs.Weights.{callee_weight, object_weight, value_weight, values_weight, weight}
use Rattle.lockset_check_values.proofs.walker.Walker.+values.Given as goal

abbrev pub decreases-node : goal.decreases-node
decreases-node l = weight (node_at l.self.now.program.table l.id)

abbrev pub decreases-value : goal.decreases-value
decreases-value l = 1 + value_weight (value_at l.self.now.program.table l.id)

abbrev pub decreases-object : goal.decreases-object
decreases-object l = 1 + object_weight (object_at l.self.now.program.table l.id)

abbrev pub decreases-values : goal.decreases-values
decreases-values l = values_weight (values (typed_of l.self.now.program.table) l.ids.now)

abbrev pub decreases-pair : goal.decreases-pair
decreases-pair l = 2 + (value_weight (value_at l.self.now.program.table l.left) + value_weight (value_at l.self.now.program.table l.right))

abbrev pub decreases-sum : goal.decreases-sum
decreases-sum l = 3 + (value_weight (value_at l.self.now.program.table l.pointer) + value_weight (value_at l.self.now.program.table l.index))

abbrev pub decreases-element : goal.decreases-element
decreases-element l = 3 + (value_weight (value_at l.self.now.program.table l.pointer) + value_weight (value_at l.self.now.program.table l.index))

abbrev pub decreases-one_or_both : goal.decreases-one_or_both
decreases-one_or_both l = 3 + (value_weight (value_at l.self.now.program.table l.first) + value_weight (value_at l.self.now.program.table l.second))

abbrev pub decreases-choice : goal.decreases-choice
decreases-choice l = 2 + (value_weight (value_at l.self.now.program.table l.condition) + (value_weight (value_at l.self.now.program.table l.then) + value_weight (value_at l.self.now.program.table l.other)))

abbrev pub decreases-read : goal.decreases-read
decreases-read l = 2 + object_weight (object_at l.self.now.program.table l.object)

abbrev pub decreases-address_of : goal.decreases-address_of
decreases-address_of l = 2 + object_weight (object_at l.self.now.program.table l.object)

abbrev pub decreases-assigned : goal.decreases-assigned
decreases-assigned l = 2 + (object_weight (object_at l.self.now.program.table l.object) + value_weight (value_at l.self.now.program.table l.value))

abbrev pub decreases-changed : goal.decreases-changed
decreases-changed l = 2 + (object_weight (object_at l.self.now.program.table l.object) + value_weight (value_at l.self.now.program.table l.value))

abbrev pub decreases-stepped : goal.decreases-stepped
decreases-stepped l = 2 + object_weight (object_at l.self.now.program.table l.object)

abbrev pub decreases-call : goal.decreases-call
decreases-call l = 2 + (callee_weight (callee_at l.self.now.program.table l.callee) + values_weight (values (typed_of l.self.now.program.table) l.arguments.now))
