use Rattle.whole_runs_laws.proofs.laws.steps_are_determined.Goals as goal
use Rattle.whole_runs_laws.proofs.OneStep.{steps_determined}

pub returns : goal.returns
returns c = steps_determined
