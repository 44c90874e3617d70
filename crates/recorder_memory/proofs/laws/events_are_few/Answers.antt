use Rattle.recorder_memory.proofs.Counts.{few}
use Rattle.recorder_memory.proofs.laws.events_are_few.Goals as goal

pub returns : goal.returns
returns c = few
