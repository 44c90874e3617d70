use Rattle.whole_runs_memory.proofs.above_cut.frees_of_null_above_are_whole.Goals as goal
use Rattle.whole_runs_memory.proofs.Above.{frees_of_null}

pub returns : goal.returns
returns c = frees_of_null
