use Rattle.recorder_memory.proofs.Quiet.{few}
use Rattle.recorder_memory.proofs.laws.threads_that_step_are_few.Goals as goal

pub returns : goal.returns
returns c = few
