use Rattle.whole_runs_memory.proofs.below_cut.steps_are_whole.Goals as goal
use Rattle.whole_runs_memory.proofs.Steps.{steps}

pub returns : goal.returns
returns c = steps
