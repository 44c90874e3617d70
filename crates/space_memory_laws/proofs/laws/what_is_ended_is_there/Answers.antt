use Rattle.space_memory_laws.proofs.laws.what_is_ended_is_there.Goals as goal
use Rattle.space_memory_laws.proofs.Ends.{ended_there}

pub returns : goal.returns
returns c = ended_there
