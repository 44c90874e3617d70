use Rattle.replay_runs.proofs.checks.places_are_one.Goals as goal
use Rattle.replay_runs.proofs.Blocks.{one_place}

pub returns : goal.returns
returns c = one_place
