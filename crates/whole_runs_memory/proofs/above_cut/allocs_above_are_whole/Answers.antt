use Rattle.whole_runs_memory.proofs.above_cut.allocs_above_are_whole.Goals as goal
use Rattle.whole_runs_memory.proofs.Above.{allocs}

pub returns : goal.returns
returns c = allocs
