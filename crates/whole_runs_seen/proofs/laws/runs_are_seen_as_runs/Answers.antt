use Rattle.whole_runs_seen.proofs.laws.runs_are_seen_as_runs.Goals as goal
use Rattle.whole_runs_seen.proofs.Stops.{runs_seen}

pub returns : goal.returns
returns c = runs_seen
