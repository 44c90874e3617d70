use Rattle.recorder_memory.proofs.Quiet.{calls_held}
use Rattle.recorder_memory.proofs.laws.calls_are_held.Goals as goal

pub returns : goal.returns
returns c = calls_held
