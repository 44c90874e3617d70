use Rattle.whole_runs_examples.proofs.crossings.points_below.Goals as goal
use Rattle.whole_runs_examples.proofs.CrossingScenes.{points_below_run, points_below_none, points_below_nowhere}

pub returns-clause-run : goal.returns-clause-run
returns-clause-run c = points_below_run

pub returns-clause-none : goal.returns-clause-none
returns-clause-none c = points_below_none

pub returns-clause-nowhere : goal.returns-clause-nowhere
returns-clause-nowhere c = points_below_nowhere
