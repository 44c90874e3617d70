use Rattle.whole_runs_examples.proofs.crossings.peeks.Goals as goal
use Rattle.whole_runs_examples.proofs.CrossingScenes.{peeks_run, peeks_stop, peeks_frame}

pub returns-clause-run : goal.returns-clause-run
returns-clause-run c = peeks_run

pub returns-clause-stop : goal.returns-clause-stop
returns-clause-stop c = peeks_stop

pub returns-clause-frame : goal.returns-clause-frame
returns-clause-frame c = peeks_frame
