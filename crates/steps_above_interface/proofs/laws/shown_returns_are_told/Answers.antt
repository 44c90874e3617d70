use Rattle.steps_above_interface.proofs.Returned.{tells}
use Rattle.steps_above_interface.proofs.laws.shown_returns_are_told.Goals as goal

pub returns : goal.returns
returns c = tells
