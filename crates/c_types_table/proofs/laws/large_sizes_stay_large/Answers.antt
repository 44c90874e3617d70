use Rattle.c_types_table.proofs.Extents.{extents_capped}
use Rattle.c_types_table.proofs.laws.large_sizes_stay_large.Goals as goal

pub returns : goal.returns
returns c = extents_capped
