use Rattle.replay_runs.specs.Pool.{in_use}
use Rattle.whole_runs.specs.World.{begin}
use Rattle.whole_runs.specs.Sides.{seen}
use Rattle.reference_recorder_regions.specs.Steps.{use_step}
use Rattle.reference_recorder_regions.proofs.Folds.{use_more}
use Rattle.reference_recorder_marks.proofs.Past.{folded, folds}
use Rattle.reference_recorder_regions.proofs.keys.in_use.Goals as goal

pub loop-mark-preserved : goal.loop-mark-preserved
loop-mark-preserved c = λ w.
    folds (λ p. in_use (begin w) c.args.key (seen p)) (use_step c.args.key) (use_more w c.args.key) c.args.marks.now c.loop-mark.mark-index c.mark-item.result c.loop-mark-test.true c.mark-item.is _ _ (c.loop-mark.invariant w) c.use_of-region.ensures

pub returns : goal.returns
returns c = λ w. folded (λ p. in_use (begin w) c.args.key (seen p)) c.args.marks.now c.loop-mark.mark-index c.loop-mark-test.false _ (c.loop-mark.invariant w)
