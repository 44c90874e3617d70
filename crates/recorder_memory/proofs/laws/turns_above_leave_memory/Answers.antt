use Rattle.recorder_memory.proofs.AccessesAbove.{turns_above}
use Rattle.recorder_memory.proofs.laws.turns_above_leave_memory.Goals as goal

pub returns : goal.returns
returns c = turns_above
