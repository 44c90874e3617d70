use Rattle.replay_runs.proofs.checks.unseen_bytes_are_known.Goals as goal
use Rattle.replay_runs.proofs.Unseen.{are_known}

pub returns : goal.returns
returns c = are_known
