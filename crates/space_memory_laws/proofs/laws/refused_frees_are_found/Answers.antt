use Rattle.space_memory_laws.proofs.laws.refused_frees_are_found.Goals as goal
use Rattle.space_memory_laws.proofs.Rooms.{frees_found}

pub returns : goal.returns
returns c = frees_found
