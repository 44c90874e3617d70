use Rattle.std.proofs.Common.{◌≡◌, take}
use Rattle.log_closure.specs.Events.{events_of}
use Rattle.log_reference.proofs.Splits.{Each}
use Rattle.log_reference.proofs.events.stands.Given as goal

abbrev pub invariant-loop-at : goal.invariant-loop-at
invariant-loop-at l = Each (λ before e. e.name ≡ l.name → ⊥) (events_of (take l.at l.records))
