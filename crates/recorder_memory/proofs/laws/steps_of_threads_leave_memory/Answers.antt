use Rattle.recorder_memory.proofs.Quiet.{steps_of_threads}
use Rattle.recorder_memory.proofs.laws.steps_of_threads_leave_memory.Goals as goal

pub returns : goal.returns
returns c = steps_of_threads
