use Rattle.whole_runs_memory.proofs.above_cut.calls_above_are_whole.Goals as goal
use Rattle.whole_runs_memory.proofs.Above.{called}

pub returns : goal.returns
returns c = called
