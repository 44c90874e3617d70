use Rattle.std.proofs.Common.{take}
use Rattle.log_closure.specs.Events.{In, marks, events_of}
use Rattle.log_reference.proofs.Splits.{Each}
use Rattle.log_reference.proofs.events.any_has.Given as goal

abbrev pub invariant-loop-entry : goal.invariant-loop-entry
invariant-loop-entry l = Each (λ before e. In l.mark (marks e) → ⊥) (events_of (take l.entry-index l.records))
