use Rattle.space_memory_laws.proofs.laws.arguments_below_are_unseen.Goals as goal
use Rattle.space_memory_laws.proofs.Below.{arguments_set}

pub returns : goal.returns
returns c = arguments_set
