use Rattle.replay_runs.proofs.checks.return_checks_are_exact.Goals as goal
use Rattle.replay_runs.proofs.Returns.{exact}

pub returns : goal.returns
returns c = exact
