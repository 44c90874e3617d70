use Rattle.replay_runs_examples.proofs.faults.a_cached_return.Goals as goal
use Rattle.replay_runs_examples.proofs.Examples.{asked_holds}
use Rattle.replay_runs_examples.proofs.Named.{in_full_refused}

pub returns-clause-disciplined : goal.returns-clause-disciplined
returns-clause-disciplined c = asked_holds

pub returns-clause-in_full : goal.returns-clause-in_full
returns-clause-in_full c = in_full_refused
