use Rattle.whole_runs_examples.proofs.crossings.doubles.Goals as goal
use Rattle.whole_runs_examples.proofs.CrossingScenes.{doubles_run, doubles_above, doubles_below, doubles_refused}

pub returns-clause-run : goal.returns-clause-run
returns-clause-run c = doubles_run

pub returns-clause-above : goal.returns-clause-above
returns-clause-above c = doubles_above

pub returns-clause-below : goal.returns-clause-below
returns-clause-below c = doubles_below

pub returns-clause-refused : goal.returns-clause-refused
returns-clause-refused c = doubles_refused
