use Rattle.std.proofs.Common.{◌≡◌, drop}
use Rattle.causal_order.specs.Order.{is_listed}
use Rattle.reference_recorder_marks.proofs.events.is_listed.Given as goal

abbrev pub invariant-loop-mark : goal.invariant-loop-mark
invariant-loop-mark l = is_listed (drop l.mark-index l.keys) l.key ≡ is_listed l.keys l.key
