use Rattle.std.proofs.Common.{refl}
use Rattle.whole_runs.specs.Below.{act_blocks, system_blocks}
use Rattle.reference_recorder_marks.proofs.Past.{folded, folds}
use Rattle.reference_recorder_regions.proofs.pools.system_blocks.Goals as goal

pub loop-mark-preserved : goal.loop-mark-preserved
loop-mark-preserved c =
    folds (system_blocks) (λ m. act_blocks m.act) (λ m p. refl) c.args.marks.now c.loop-mark.mark-index c.mark-item.result c.loop-mark-test.true c.mark-item.is _ _ c.loop-mark.invariant c.in_ok-act_blocks.ensures

pub returns : goal.returns
returns c = folded (system_blocks) c.args.marks.now c.loop-mark.mark-index c.loop-mark-test.false _ c.loop-mark.invariant
