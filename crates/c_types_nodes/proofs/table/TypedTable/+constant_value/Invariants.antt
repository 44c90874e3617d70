use Rattle.c_types_nodes.specs.Tables.{value_at}
use Rattle.c_types_nodes.proofs.Weights.{weight}
use Rattle.c_types_nodes.proofs.table.TypedTable.+constant_value.Given as goal

abbrev pub decreases-constant_value : goal.decreases-constant_value
decreases-constant_value l = weight (value_at l.self.now l.id)
