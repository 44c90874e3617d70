use Rattle.replay_runs.proofs.checks.what_is_found_stops.Goals as goal
use Rattle.replay_runs.proofs.Stops.{stops}

pub returns : goal.returns
returns c program s past m f allowed no_race go h = stops program s past m f allowed no_race go h
