use Rattle.c_types_nodes.specs.Tables.{object_at, value_at}
use Rattle.c_lower_bodies.proofs.Weights.{object_weight, value_weight}
use Rattle.c_lower_bodies.proofs.emitter.Emitter.+origins.Given as goal

abbrev pub decreases-origin : goal.decreases-origin
decreases-origin l = object_weight (object_at l.self.now.declared.table l.object)

abbrev pub decreases-array_origin : goal.decreases-array_origin
decreases-array_origin l = value_weight (value_at l.self.now.declared.table l.pointer)
