use Rattle.recorder_system.proofs.Fit.{hand_ints}
use Rattle.recorder_system.proofs.laws.threads_hand_ints.Goals as goal

pub returns : goal.returns
returns c = hand_ints
