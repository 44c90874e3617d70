use Rattle.whole_runs_memory.proofs.below_cut.refused_allocs_below_are_whole.Goals as goal
use Rattle.whole_runs_memory.proofs.PoolBelow.{refused_allocs}

pub returns : goal.returns
returns c = refused_allocs
