use Rattle.whole_runs_memory.proofs.above_cut.refused_allocs_above_are_whole.Goals as goal
use Rattle.whole_runs_memory.proofs.Above.{refused_allocs}

pub returns : goal.returns
returns c = refused_allocs
