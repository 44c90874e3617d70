use Rattle.replay_runs.proofs.checks.rets_give_what_is_held.Goals as goal
use Rattle.replay_runs.proofs.Owning.{gives}

pub returns : goal.returns
returns c = gives
