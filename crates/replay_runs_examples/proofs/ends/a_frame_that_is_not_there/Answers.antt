use Rattle.replay_runs_examples.proofs.ends.a_frame_that_is_not_there.Goals as goal
use Rattle.replay_runs_examples.proofs.Absent.{frame_found, no_frame_fault}

pub returns-clause-found : goal.returns-clause-found
returns-clause-found c = frame_found

pub returns-clause-no_fault : goal.returns-clause-no_fault
returns-clause-no_fault c = no_frame_fault
