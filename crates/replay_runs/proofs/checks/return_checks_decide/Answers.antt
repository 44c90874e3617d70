use Rattle.replay_runs.proofs.checks.return_checks_decide.Goals as goal
use Rattle.replay_runs.proofs.Decided.{returns_decided}

pub returns : goal.returns
returns c = returns_decided
