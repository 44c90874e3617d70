use Rattle.whole_runs_examples.proofs.locks.races_with_reads.Goals as goal
use Rattle.whole_runs_examples.proofs.LockScenes.{races_with_reads_run}

pub returns : goal.returns
returns c = races_with_reads_run
