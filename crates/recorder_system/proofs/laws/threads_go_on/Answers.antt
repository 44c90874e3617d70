use Rattle.recorder_system.proofs.Told.{goes_on}
use Rattle.recorder_system.proofs.laws.threads_go_on.Goals as goal

pub returns : goal.returns
returns c = goes_on
