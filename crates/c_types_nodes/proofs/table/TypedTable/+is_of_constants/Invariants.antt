use Rattle.c_types_nodes.specs.Tables.{value_at}
use Rattle.c_types_nodes.proofs.Weights.{weight}
use Rattle.c_types_nodes.proofs.table.TypedTable.+is_of_constants.Given as goal

abbrev pub decreases-is_of_constants : goal.decreases-is_of_constants
decreases-is_of_constants l = weight (value_at l.self.now l.id)
