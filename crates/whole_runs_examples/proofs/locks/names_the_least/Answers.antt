use Rattle.whole_runs_examples.proofs.locks.names_the_least.Goals as goal
use Rattle.whole_runs_examples.proofs.LockScenes.{names_the_least_run}

pub returns : goal.returns
returns c = names_the_least_run
