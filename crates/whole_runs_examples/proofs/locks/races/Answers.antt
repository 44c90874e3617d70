use Rattle.whole_runs_examples.proofs.locks.races.Goals as goal
use Rattle.whole_runs_examples.proofs.LockScenes.{races_run, races_first, races_second, races_third}

pub returns-clause-run : goal.returns-clause-run
returns-clause-run c = races_run

pub returns-clause-first : goal.returns-clause-first
returns-clause-first c = races_first

pub returns-clause-second : goal.returns-clause-second
returns-clause-second c = races_second

pub returns-clause-third : goal.returns-clause-third
returns-clause-third c = races_third
