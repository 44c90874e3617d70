use Rattle.whole_runs_memory.proofs.above_cut.runs_seen_are_whole.Goals as goal
use Rattle.whole_runs_memory.proofs.RealRuns.{seen_whole}

pub returns : goal.returns
returns c = seen_whole
