use Rattle.whole_runs_memory.proofs.above_cut.bytes_kept_off_are_real.Goals as goal
use Rattle.whole_runs_memory.proofs.Real.{kept_off}

pub returns : goal.returns
returns c = kept_off
