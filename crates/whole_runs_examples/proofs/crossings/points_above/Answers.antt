use Rattle.whole_runs_examples.proofs.crossings.points_above.Goals as goal
use Rattle.whole_runs_examples.proofs.CrossingScenes.{points_above_run, points_above_stop}

pub returns-clause-run : goal.returns-clause-run
returns-clause-run c = points_above_run

pub returns-clause-stop : goal.returns-clause-stop
returns-clause-stop c = points_above_stop
