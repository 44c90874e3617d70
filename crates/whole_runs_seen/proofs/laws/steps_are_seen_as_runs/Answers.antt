use Rattle.whole_runs_seen.proofs.laws.steps_are_seen_as_runs.Goals as goal
use Rattle.whole_runs_seen.proofs.Calm.{seen_as_runs}

pub returns : goal.returns
returns c = seen_as_runs
