use Rattle.std.proofs.Common.{take}
use Rattle.log_closure.specs.Events.{In}
use Rattle.log_reference.proofs.Splits.{Each}
use Rattle.log_reference.proofs.marks.repeats.Given as goal

abbrev pub invariant-loop-at : goal.invariant-loop-at
invariant-loop-at l = Each (λ before m. In m before → ⊥) (take l.at l.marks)
