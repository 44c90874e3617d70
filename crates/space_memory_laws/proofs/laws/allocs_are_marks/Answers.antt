use Rattle.space_memory_laws.proofs.laws.allocs_are_marks.Goals as goal
use Rattle.space_memory_laws.proofs.Pool.{allocs}

pub returns : goal.returns
returns c = allocs
