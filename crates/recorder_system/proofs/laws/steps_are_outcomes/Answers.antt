use Rattle.recorder_system.proofs.Made.{made_outcomes}
use Rattle.recorder_system.proofs.laws.steps_are_outcomes.Goals as goal

pub returns : goal.returns
returns c = made_outcomes
