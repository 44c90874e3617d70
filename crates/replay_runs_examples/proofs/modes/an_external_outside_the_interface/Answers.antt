use Rattle.replay_runs_examples.proofs.modes.an_external_outside_the_interface.Goals as goal
use Rattle.replay_runs_examples.proofs.Refused.{got_holds, is_left, got_stops, step_refused, mode_is_named}

pub returns-clause-before : goal.returns-clause-before
returns-clause-before c = got_holds

pub returns-clause-is_left : goal.returns-clause-is_left
returns-clause-is_left c = is_left

pub returns-clause-stopped : goal.returns-clause-stopped
returns-clause-stopped c = got_stops

pub returns-clause-refused : goal.returns-clause-refused
returns-clause-refused c = step_refused

pub returns-clause-named : goal.returns-clause-named
returns-clause-named c = mode_is_named
