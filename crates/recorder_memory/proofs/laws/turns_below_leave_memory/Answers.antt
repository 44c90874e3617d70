use Rattle.recorder_memory.proofs.Quiet.{turns}
use Rattle.recorder_memory.proofs.laws.turns_below_leave_memory.Goals as goal

pub returns : goal.returns
returns c = turns
