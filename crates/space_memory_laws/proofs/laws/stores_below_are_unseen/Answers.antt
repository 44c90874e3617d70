use Rattle.space_memory_laws.proofs.laws.stores_below_are_unseen.Goals as goal
use Rattle.space_memory_laws.proofs.Below.{stored}

pub returns : goal.returns
returns c = stored
