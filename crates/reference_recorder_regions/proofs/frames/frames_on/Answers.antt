use Rattle.whole_runs.specs.Sides.{frames_on}
use Rattle.reference_recorder_regions.specs.Steps.{frames_step}
use Rattle.reference_recorder_regions.proofs.Folds.{frames_more}
use Rattle.reference_recorder_marks.proofs.Past.{folded, folds}
use Rattle.reference_recorder_regions.proofs.frames.frames_on.Goals as goal

pub loop-mark-preserved : goal.loop-mark-preserved
loop-mark-preserved c = λ w.
    folds (frames_on w c.args.side c.args.thread) (frames_step c.args.side c.args.thread) (frames_more w c.args.side c.args.thread) c.args.marks.now c.loop-mark.mark-index c.mark-item.result c.loop-mark-test.true c.mark-item.is _ _ (c.loop-mark.invariant w) c.in_ok-note_frame.ensures

pub returns : goal.returns
returns c = λ w. folded (frames_on w c.args.side c.args.thread) c.args.marks.now c.loop-mark.mark-index c.loop-mark-test.false _ (c.loop-mark.invariant w)
