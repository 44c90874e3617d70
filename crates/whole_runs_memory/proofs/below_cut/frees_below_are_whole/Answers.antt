use Rattle.whole_runs_memory.proofs.below_cut.frees_below_are_whole.Goals as goal
use Rattle.whole_runs_memory.proofs.PoolBelow.{frees}

pub returns : goal.returns
returns c = frees
