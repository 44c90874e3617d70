use Rattle.reference_recorder_rights.specs.Rights.{flags_step}
use Rattle.reference_recorder_rights.proofs.HandedDown.{flags_more, open_flags}
use Rattle.reference_recorder_marks.proofs.Past.{folded, folds}
use Rattle.reference_recorder_rights.proofs.opens.open_flags.Goals as goal

pub loop-mark-preserved : goal.loop-mark-preserved
loop-mark-preserved c = λ w.
    folds (open_flags w c.args.addr c.args.thread) (flags_step c.args.addr c.args.thread) (flags_more w c.args.addr c.args.thread) c.args.marks.now c.loop-mark.mark-index c.mark-item.result c.loop-mark-test.true c.mark-item.is _ _ (c.loop-mark.invariant w) c.in_ok-note_call.ensures

pub returns : goal.returns
returns c = λ w. folded (open_flags w c.args.addr c.args.thread) c.args.marks.now c.loop-mark.mark-index c.loop-mark-test.false _ (c.loop-mark.invariant w)
