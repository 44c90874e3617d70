use Rattle.replay_runs_examples.proofs.modes.a_write_to_a_constant_that_was_read.Goals as goal
use Rattle.replay_runs_examples.proofs.Refused.{refused_holds, fault_is_named}

pub returns-clause-disciplined : goal.returns-clause-disciplined
returns-clause-disciplined c = refused_holds

pub returns-clause-named : goal.returns-clause-named
returns-clause-named c = fault_is_named
