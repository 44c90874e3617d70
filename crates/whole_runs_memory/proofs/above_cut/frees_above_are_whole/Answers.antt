use Rattle.whole_runs_memory.proofs.above_cut.frees_above_are_whole.Goals as goal
use Rattle.whole_runs_memory.proofs.Above.{frees}

pub returns : goal.returns
returns c = frees
