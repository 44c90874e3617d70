use Rattle.space_memory_laws.proofs.laws.allocs_below_are_unseen.Goals as goal
use Rattle.space_memory_laws.proofs.Below.{taken}

pub returns : goal.returns
returns c = taken
