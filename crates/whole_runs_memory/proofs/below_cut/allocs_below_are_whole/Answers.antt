use Rattle.whole_runs_memory.proofs.below_cut.allocs_below_are_whole.Goals as goal
use Rattle.whole_runs_memory.proofs.PoolBelow.{allocs}

pub returns : goal.returns
returns c = allocs
