use Rattle.std.proofs.Common.{not, ap}
use Rattle.reference_recorder_picks.proofs.stepping.is_running.Goals as goal

pub returns : goal.returns
returns c = λ p. ap not (c.is_ended.ensures p)
