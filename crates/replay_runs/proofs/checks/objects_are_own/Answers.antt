use Rattle.replay_runs.proofs.checks.objects_are_own.Goals as goal
use Rattle.replay_runs.proofs.Owning.{objects_own}

pub returns : goal.returns
returns c = objects_own
