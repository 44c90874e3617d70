use Rattle.whole_runs_examples.proofs.locks.waits.Goals as goal
use Rattle.whole_runs_examples.proofs.LockScenes.{waits_run, waits_none}

pub returns-clause-run : goal.returns-clause-run
returns-clause-run c = waits_run

pub returns-clause-none : goal.returns-clause-none
returns-clause-none c = waits_none
