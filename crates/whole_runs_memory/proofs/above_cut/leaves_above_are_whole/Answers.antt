use Rattle.whole_runs_memory.proofs.above_cut.leaves_above_are_whole.Goals as goal
use Rattle.whole_runs_memory.proofs.Above.{leaves}

pub returns : goal.returns
returns c = leaves
