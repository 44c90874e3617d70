use Rattle.whole_runs_memory.proofs.below_cut.leaves_below_are_whole.Goals as goal
use Rattle.whole_runs_memory.proofs.Below.{leaves}

pub returns : goal.returns
returns c = leaves
