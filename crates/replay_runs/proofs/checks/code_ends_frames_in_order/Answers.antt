use Rattle.replay_runs.proofs.checks.code_ends_frames_in_order.Goals as goal
use Rattle.replay_runs.proofs.FramesInOrder.{in_order}

pub returns : goal.returns
returns c = in_order
