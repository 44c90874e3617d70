use Rattle.steps_above_stamps.proofs.Distinct.{are_distinct}
use Rattle.steps_above_stamps.proofs.laws.keys_of_events_are_distinct.Goals as goal

pub returns : goal.returns
returns c = are_distinct
