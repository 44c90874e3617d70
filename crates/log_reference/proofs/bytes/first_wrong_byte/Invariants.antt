use Rattle.std.proofs.Common.{take}
use Rattle.log_codec.specs.LogText.{BeginsLog}
use Rattle.log_reference.proofs.bytes.first_wrong_byte.Given as goal

abbrev pub invariant-loop-at : goal.invariant-loop-at
invariant-loop-at l = BeginsLog (take l.at l.bytes)
