use Rattle.replay_runs.proofs.checks.checks_decide.Goals as goal
use Rattle.replay_runs.proofs.Decided.{checks_decided}

pub returns : goal.returns
returns c = checks_decided
