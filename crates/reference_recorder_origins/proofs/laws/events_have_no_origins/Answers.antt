use Rattle.reference_recorder_origins.proofs.Parts.{new_seen, new_without}
use Rattle.reference_recorder_origins.proofs.Racing.{known_seen}
use Rattle.reference_recorder_origins.proofs.laws.events_have_no_origins.Goals as goal

pub returns : goal.returns
returns c = record { above = new_seen; all = new_without; knowledge = known_seen }
