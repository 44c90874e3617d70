use Rattle.whole_runs_memory.proofs.below_cut.frees_of_null_below_are_whole.Goals as goal
use Rattle.whole_runs_memory.proofs.PoolBelow.{frees_of_null}

pub returns : goal.returns
returns c = frees_of_null
