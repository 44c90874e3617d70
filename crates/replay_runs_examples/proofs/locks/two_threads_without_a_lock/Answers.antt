use Rattle.replay_runs_examples.proofs.locks.two_threads_without_a_lock.Goals as goal
use Rattle.replay_runs_examples.proofs.Named.{before_holds, step_is_a_run, step_races, race_is_named}

pub returns-clause-before : goal.returns-clause-before
returns-clause-before c = before_holds

pub returns-clause-step : goal.returns-clause-step
returns-clause-step c = step_is_a_run

pub returns-clause-race : goal.returns-clause-race
returns-clause-race c = step_races

pub returns-clause-named : goal.returns-clause-named
returns-clause-named c = race_is_named
