use Rattle.c_types_nodes.specs.Tables.{object_at, value_at}
use Rattle.cut_graph_mentions.proofs.Weights.{object_weight, value_weight}
use Rattle.cut_graph_mentions.proofs.paths.+origins.Given as goal

abbrev pub decreases-origin : goal.decreases-origin
decreases-origin l = object_weight (object_at l.table.now l.object)

abbrev pub decreases-array_origin : goal.decreases-array_origin
decreases-array_origin l = value_weight (value_at l.table.now l.pointer)
