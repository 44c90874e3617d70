use Rattle.replay_runs.specs.Pool.{is_registered}
use Rattle.whole_runs.specs.World.{begin}
use Rattle.whole_runs.specs.Sides.{seen}
use Rattle.reference_recorder_regions.specs.Steps.{registered_step}
use Rattle.reference_recorder_regions.proofs.Folds.{registered_more}
use Rattle.reference_recorder_marks.proofs.Past.{folded, folds}
use Rattle.reference_recorder_regions.proofs.keys.is_registered.Goals as goal

pub loop-mark-preserved : goal.loop-mark-preserved
loop-mark-preserved c = λ w.
    folds (λ p. is_registered (begin w) c.args.func (seen p)) (registered_step c.args.func) (registered_more w c.args.func) c.args.marks.now c.loop-mark.mark-index c.mark-item.result c.loop-mark-test.true c.mark-item.is _ _ (c.loop-mark.invariant w) c.registered_by-registered.ensures

pub returns : goal.returns
returns c = λ w. folded (λ p. is_registered (begin w) c.args.func (seen p)) c.args.marks.now c.loop-mark.mark-index c.loop-mark-test.false _ (c.loop-mark.invariant w)
