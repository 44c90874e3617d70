use Rattle.space_memory_laws.proofs.laws.frees_below_are_unseen.Goals as goal
use Rattle.space_memory_laws.proofs.Below.{given}

pub returns : goal.returns
returns c = given
