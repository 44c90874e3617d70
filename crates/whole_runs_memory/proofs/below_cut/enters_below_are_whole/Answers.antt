use Rattle.whole_runs_memory.proofs.below_cut.enters_below_are_whole.Goals as goal
use Rattle.whole_runs_memory.proofs.Below.{enters}

pub returns : goal.returns
returns c = enters
