use Rattle.std.proofs.Common.{◌≡◌, drop}
use Rattle.causal_order.specs.Order.{ticket_in}
use Rattle.reference_recorder_marks.proofs.events.ticket_in.Given as goal

abbrev pub invariant-loop-mark : goal.invariant-loop-mark
invariant-loop-mark l = ticket_in (drop l.mark-index l.keys) l.key ≡ ticket_in l.keys l.key
