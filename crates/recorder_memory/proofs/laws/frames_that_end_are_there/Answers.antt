use Rattle.recorder_memory.proofs.Quiet.{there}
use Rattle.recorder_memory.proofs.laws.frames_that_end_are_there.Goals as goal

pub returns : goal.returns
returns c = there
