use Rattle.replay_runs_examples.proofs.regions.a_region_that_is_held.Goals as goal
use Rattle.replay_runs_examples.proofs.Named.{held_holds, held_stops, pending_refused, pending_is_named}

pub returns-clause-before : goal.returns-clause-before
returns-clause-before c = held_holds

pub returns-clause-stopped : goal.returns-clause-stopped
returns-clause-stopped c = held_stops

pub returns-clause-refused : goal.returns-clause-refused
returns-clause-refused c = pending_refused

pub returns-clause-named : goal.returns-clause-named
returns-clause-named c = pending_is_named
