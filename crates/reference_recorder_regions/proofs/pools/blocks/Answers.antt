use Rattle.replay_runs.specs.Pool.{blocks}
use Rattle.whole_runs.specs.World.{begin}
use Rattle.whole_runs.specs.Sides.{seen}
use Rattle.reference_recorder_regions.specs.Steps.{blocks_step}
use Rattle.reference_recorder_regions.proofs.Folds.{blocks_more}
use Rattle.reference_recorder_marks.proofs.Past.{folded, folds}
use Rattle.reference_recorder_regions.proofs.pools.blocks.Goals as goal

pub loop-mark-preserved : goal.loop-mark-preserved
loop-mark-preserved c = λ w.
    folds (λ p. blocks (begin w) (seen p)) (blocks_step) (blocks_more w) c.args.marks.now c.loop-mark.mark-index c.mark-item.result c.loop-mark-test.true c.mark-item.is _ _ (c.loop-mark.invariant w) c.in_ok-note_above.ensures

pub returns : goal.returns
returns c = λ w. folded (λ p. blocks (begin w) (seen p)) c.args.marks.now c.loop-mark.mark-index c.loop-mark-test.false _ (c.loop-mark.invariant w)
