use Rattle.space_memory_laws.proofs.laws.leaves_below_are_unseen.Goals as goal
use Rattle.space_memory_laws.proofs.Below.{left}

pub returns : goal.returns
returns c = left
