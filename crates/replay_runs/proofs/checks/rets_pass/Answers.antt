use Rattle.replay_runs.proofs.checks.rets_pass.Goals as goal
use Rattle.replay_runs.proofs.Returns.{rets_pass}

pub returns : goal.returns
returns c = rets_pass
