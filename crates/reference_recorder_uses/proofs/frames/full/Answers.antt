use Rattle.std.proofs.Common.{subst}
use Rattle.marks.specs.declared.side.Side.TheVariants.{System}
use Rattle.reference_recorder_marks.specs.Marks.{past}
use Rattle.reference_recorder_uses.proofs.Room.{IsRoom, fits_below, full_below}
use Rattle.reference_recorder_uses.proofs.frames.full.Goals as goal

pub returns-in-Some : goal.returns-in-Some
returns-in-Some c = λ w p h.
    fits_below w p (past c.args.run.marks.now) h.same c.args.thread c.args.size
    (subst (IsRoom w (past c.args.run.marks.now) System c.args.thread c.args.size) c.in-Some.is (c.in_ok-room_on.ensures w)).0

pub returns-in-None : goal.returns-in-None
returns-in-None c = λ w p h.
    full_below w p (past c.args.run.marks.now) h.same c.args.thread c.args.size
    (subst (IsRoom w (past c.args.run.marks.now) System c.args.thread c.args.size) c.in-None.is (c.in_ok-room_on.ensures w))
