use Rattle.space_memory_laws.proofs.laws.other_space_comes_first.Goals as goal
use Rattle.space_memory_laws.proofs.Refusals.{second}

pub returns : goal.returns
returns c = second
