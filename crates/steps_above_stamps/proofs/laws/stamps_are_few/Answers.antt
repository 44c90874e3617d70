use Rattle.steps_above_stamps.proofs.Few.{are_few}
use Rattle.steps_above_stamps.proofs.laws.stamps_are_few.Goals as goal

pub returns : goal.returns
returns c = are_few
