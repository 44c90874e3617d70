use Rattle.std.proofs.Common.{◌≡◌, take}
use Rattle.log_reference.proofs.Splits.{Holds}
use Rattle.log_reference.proofs.marks.has.Given as goal

abbrev pub invariant-loop-other : goal.invariant-loop-other
invariant-loop-other l = Holds (λ m. l.mark ≡ m → ⊥) (take l.other-index l.marks)
