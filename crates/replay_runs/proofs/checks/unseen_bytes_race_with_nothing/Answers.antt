use Rattle.replay_runs.proofs.checks.unseen_bytes_race_with_nothing.Goals as goal
use Rattle.replay_runs.proofs.Unseen.{race_with_nothing}

pub returns : goal.returns
returns c = race_with_nothing
