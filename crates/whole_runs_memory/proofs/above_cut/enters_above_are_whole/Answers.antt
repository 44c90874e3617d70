use Rattle.whole_runs_memory.proofs.above_cut.enters_above_are_whole.Goals as goal
use Rattle.whole_runs_memory.proofs.Above.{enters}

pub returns : goal.returns
returns c = enters
