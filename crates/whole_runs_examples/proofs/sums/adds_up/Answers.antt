use Rattle.whole_runs_examples.proofs.sums.adds_up.Goals as goal
use Rattle.whole_runs_examples.proofs.SumScenes.{adds_up_run, adds_up_log, adds_up_refused}

pub returns-clause-run : goal.returns-clause-run
returns-clause-run c = adds_up_run

pub returns-clause-log : goal.returns-clause-log
returns-clause-log c = adds_up_log

pub returns-clause-refused : goal.returns-clause-refused
returns-clause-refused c = adds_up_refused
