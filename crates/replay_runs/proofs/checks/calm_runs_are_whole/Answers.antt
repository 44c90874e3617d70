use Rattle.replay_runs.proofs.checks.calm_runs_are_whole.Goals as goal
use Rattle.replay_runs.proofs.Unseen.{stay_whole}

pub returns : goal.returns
returns c = stay_whole
