use Rattle.space_memory_laws.proofs.laws.writes_below_are_unseen.Goals as goal
use Rattle.space_memory_laws.proofs.Below.{written}

pub returns : goal.returns
returns c = written
