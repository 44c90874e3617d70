use Rattle.replay_runs.proofs.checks.fresh_starts_are_whole.Goals as goal
use Rattle.replay_runs.proofs.Unseen.{fresh_whole}

pub returns : goal.returns
returns c = fresh_whole
