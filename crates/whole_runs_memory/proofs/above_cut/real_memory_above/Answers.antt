use Rattle.whole_runs_memory.proofs.above_cut.real_memory_above.Goals as goal
use Rattle.whole_runs_memory.proofs.RealRuns.{real_above}

pub returns : goal.returns
returns c = real_above
