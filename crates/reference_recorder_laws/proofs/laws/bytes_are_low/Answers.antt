use Rattle.std.proofs.Common.{subst}
use Rattle.reference_recorder_scans.specs.Found.{IsLow}
use Rattle.reference_recorder_laws.proofs.Low.{low, low_without}
use Rattle.reference_recorder_laws.proofs.laws.bytes_are_low.Goals as goal

pub returns : goal.returns
returns c = λ w marks p. subst (IsLow w) p.same (low_without w p.run (low w p.fit p.run p.follows))
