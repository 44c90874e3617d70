use Rattle.std.proofs.Common.{take}
use Rattle.log_closure.specs.Events.{events_of}
use Rattle.log_reference.proofs.Preceding.{IsGreatestOf}
use Rattle.log_reference.proofs.clocks.greatest_before.Given as goal

abbrev pub invariant-loop-at : goal.invariant-loop-at
invariant-loop-at l = IsGreatestOf (record { name = l.name; entry = l.entry }) (events_of (take l.at l.records)) l.greatest
