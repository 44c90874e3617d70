use Rattle.replay_runs.proofs.checks.ranges_say_of_a_call.Goals as goal
use Rattle.replay_runs.proofs.Calls.{exact}

pub returns : goal.returns
returns c s past m e func args ins outs prepared is kind = exact s past m e func args ins outs prepared is kind
