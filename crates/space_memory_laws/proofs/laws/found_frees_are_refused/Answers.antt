use Rattle.space_memory_laws.proofs.laws.found_frees_are_refused.Goals as goal
use Rattle.space_memory_laws.proofs.Frees.{found_frees}

pub returns : goal.returns
returns c = found_frees
