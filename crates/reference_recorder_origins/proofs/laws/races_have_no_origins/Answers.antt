use Rattle.reference_recorder_origins.proofs.Racing.{races_seen}
use Rattle.reference_recorder_origins.proofs.laws.races_have_no_origins.Goals as goal

pub returns : goal.returns
returns c = races_seen
