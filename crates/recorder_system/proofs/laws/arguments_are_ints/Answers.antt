use Rattle.recorder_system.proofs.Values.{ints}
use Rattle.recorder_system.proofs.laws.arguments_are_ints.Goals as goal

pub returns : goal.returns
returns c = ints
