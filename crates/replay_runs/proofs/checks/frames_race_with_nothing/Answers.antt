use Rattle.replay_runs.proofs.checks.frames_race_with_nothing.Goals as goal
use Rattle.replay_runs.proofs.Unseen.{frames_unraced}

pub returns : goal.returns
returns c = frames_unraced
