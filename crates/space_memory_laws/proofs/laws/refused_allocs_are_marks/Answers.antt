use Rattle.space_memory_laws.proofs.laws.refused_allocs_are_marks.Goals as goal
use Rattle.space_memory_laws.proofs.Pool.{refused_allocs}

pub returns : goal.returns
returns c = refused_allocs
