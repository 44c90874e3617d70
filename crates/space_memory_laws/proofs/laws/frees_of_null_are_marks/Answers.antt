use Rattle.space_memory_laws.proofs.laws.frees_of_null_are_marks.Goals as goal
use Rattle.space_memory_laws.proofs.Pool.{frees_of_null}

pub returns : goal.returns
returns c = frees_of_null
