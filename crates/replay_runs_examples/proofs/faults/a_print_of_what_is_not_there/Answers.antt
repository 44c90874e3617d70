use Rattle.replay_runs_examples.proofs.faults.a_print_of_what_is_not_there.Goals as goal
use Rattle.replay_runs_examples.proofs.Examples.{print_refused_holds}

pub returns : goal.returns
returns c = print_refused_holds
