use Rattle.whole_runs_seen.proofs.laws.ends_of_runs_are_there.Goals as goal
use Rattle.whole_runs_seen.proofs.Ends.{ends_there}

pub returns : goal.returns
returns c = ends_there
