use Rattle.replay_runs.proofs.checks.stops_may_come.Goals as goal
use Rattle.replay_runs.proofs.Halts.{halts}

pub returns : goal.returns
returns c = halts
