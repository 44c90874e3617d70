use Rattle.std.proofs.Common.{take}
use Rattle.log_closure.specs.Events.{events_of}
use Rattle.log_closure.specs.Wrong.{AreRight}
use Rattle.log_reference.proofs.order.first_wrong_event.Given as goal

abbrev pub invariant-loop-at : goal.invariant-loop-at
invariant-loop-at l = AreRight l.whole (events_of l.records) (events_of (take l.at l.records))
