use Rattle.std.proofs.Common.{◌||◌, refl}
use Rattle.reference_recorder_marks.specs.Marks.{past}
use Rattle.reference_recorder_rights.specs.Rights.{act_under, past_under}
use Rattle.reference_recorder_rights.proofs.HandedDown.{region_in}
use Rattle.reference_recorder_marks.proofs.Past.{folded, folds}
use Rattle.reference_recorder_rights.proofs.prepared.is_prepared.Goals as goal

pub loop-mark-preserved : goal.loop-mark-preserved
loop-mark-preserved c = λ w.
    folds (past_under (region_in w (past c.args.marks.now)) c.args.addr) (λ m b. act_under (region_in w (past c.args.marks.now)) c.args.addr m.act || b) (λ m p. refl) c.args.marks.now c.loop-mark.mark-index c.mark-item.result c.loop-mark-test.true c.mark-item.is _ _ (c.loop-mark.invariant w) (c.under_or-found.ensures w)

pub returns : goal.returns
returns c = λ w. folded (past_under (region_in w (past c.args.marks.now)) c.args.addr) c.args.marks.now c.loop-mark.mark-index c.loop-mark-test.false _ (c.loop-mark.invariant w)
