use Rattle.whole_runs_memory.proofs.refused.reads_below_pass.Goals as goal
use Rattle.whole_runs_memory.proofs.Refusals.{reads_pass}

pub returns : goal.returns
returns c = reads_pass
