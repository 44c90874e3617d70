use Rattle.whole_runs_memory.proofs.refused.refused_reads_below_are_found.Goals as goal
use Rattle.whole_runs_memory.proofs.Refusals.{reads}

pub returns : goal.returns
returns c = reads
