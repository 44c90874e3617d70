use Rattle.replay_runs_examples.proofs.locks.two_threads_under_a_lock.Goals as goal
use Rattle.replay_runs_examples.proofs.Examples.{locked_holds, unkeyed_races}

pub returns-clause-disciplined : goal.returns-clause-disciplined
returns-clause-disciplined c = locked_holds

pub returns-clause-key_left_out : goal.returns-clause-key_left_out
returns-clause-key_left_out c = unkeyed_races
