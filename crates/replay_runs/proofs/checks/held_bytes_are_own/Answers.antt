use Rattle.replay_runs.proofs.checks.held_bytes_are_own.Goals as goal
use Rattle.replay_runs.proofs.Owning.{held}

pub returns : goal.returns
returns c = held
