use Rattle.whole_runs_examples.proofs.locks.keeps_bytes_apart.Goals as goal
use Rattle.whole_runs_examples.proofs.LockScenes.{keeps_bytes_apart_run}

pub returns : goal.returns
returns c = keeps_bytes_apart_run
