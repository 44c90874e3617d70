use Rattle.std.proofs.Common.{◌≡◌, take}
use Rattle.run_events.specs.declared.key.KeyMark.{KeyMark}
use Rattle.log_closure.specs.Events.{In, HasMark, events_of}
use Rattle.log_closure.specs.Predecessors.{next}
use Rattle.log_reference.proofs.Splits.{Holds}
use Rattle.log_reference.proofs.clocks.leads_by_key.Given as goal

abbrev pub invariant-loop-mark : goal.invariant-loop-mark
invariant-loop-mark l = Holds (λ n. (m : KeyMark) → n ≡ next m → (HasMark (events_of l.before) m → ⊥) → In m l.own → ⊥) (take l.mark-index l.marks)
