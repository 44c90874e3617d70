use Rattle.reference_recorder_marks.specs.Marks.{past}
use Rattle.reference_recorder_ranges.proofs.Scanned.{none_pending, pending_found}
use Rattle.reference_recorder_ranges.proofs.above.pending.Goals as goal

pub returns-in-Some : goal.returns-in-Some
returns-in-Some c = λ w p h lives. pending_found w p (past c.args.run.marks.now) h.is.same h.low c.args.range c.args.more.now lives c.in-Some.address (c.in-Some.ensures w h.is.placed)

pub returns-in-None : goal.returns-in-None
returns-in-None c = λ w p h lives. none_pending w p (past c.args.run.marks.now) h.is.same h.low c.args.range c.args.more.now lives (c.in-None.ensures w h.is.placed)
