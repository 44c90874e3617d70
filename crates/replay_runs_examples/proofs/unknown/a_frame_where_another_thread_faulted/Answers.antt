use Rattle.replay_runs_examples.proofs.unknown.a_frame_where_another_thread_faulted.Goals as goal
use Rattle.replay_runs_examples.proofs.Surprised.{faulted_holds, fault_races}

pub returns-clause-before : goal.returns-clause-before
returns-clause-before c = faulted_holds

pub returns-clause-races : goal.returns-clause-races
returns-clause-races c = fault_races
