use Rattle.replay_runs.proofs.checks.checks_say_what_may_pass.Goals as goal
use Rattle.replay_runs.proofs.Passing.{say}

pub returns : goal.returns
returns c i s past t = say s past t i
