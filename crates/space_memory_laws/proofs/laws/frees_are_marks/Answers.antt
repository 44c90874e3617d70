use Rattle.space_memory_laws.proofs.laws.frees_are_marks.Goals as goal
use Rattle.space_memory_laws.proofs.Pool.{frees}

pub returns : goal.returns
returns c = frees
