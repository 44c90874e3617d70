use Rattle.replay_runs_examples.proofs.faults.a_write_to_a_constant.Goals as goal
use Rattle.replay_runs_examples.proofs.Examples.{write_refused_holds}
use Rattle.replay_runs_examples.proofs.Named.{wrong_stop_refused, write_refused}

pub returns-clause-disciplined : goal.returns-clause-disciplined
returns-clause-disciplined c = write_refused_holds

pub returns-clause-another_stop : goal.returns-clause-another_stop
returns-clause-another_stop c = wrong_stop_refused

pub returns-clause-no_store : goal.returns-clause-no_store
returns-clause-no_store c = write_refused
