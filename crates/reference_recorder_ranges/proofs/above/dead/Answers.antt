use Rattle.std.proofs.Common.{arith}
use Rattle.reference_recorder_marks.specs.Marks.{past}
use Rattle.reference_recorder_ranges.proofs.Scanned.{all_live, dead_found}
use Rattle.reference_recorder_ranges.proofs.above.dead.Goals as goal

pub returns-in-Some : goal.returns-in-Some
returns-in-Some c = λ w p h. dead_found w p (past c.args.run.marks.now) h.is.same h.low c.args.range (omega arith) c.in-Some.field-0 (c.in-Some.ensures w h.is.placed)

pub returns-in-None : goal.returns-in-None
returns-in-None c = λ w p h. all_live w p (past c.args.run.marks.now) h.is.same h.low c.args.range (omega arith) (c.in-None.ensures w h.is.placed)
