use Rattle.reference_recorder_marks.specs.Marks.{past}
use Rattle.reference_recorder_targets.specs.Places.{some_targets, targets_of}
use Rattle.reference_recorder_targets.proofs.Regions.{targets_said}
use Rattle.reference_recorder_targets.proofs.places.targets.Goals as goal

pub returns : goal.returns
returns c = λ w h.
    targets_said w c.args.side (past c.args.marks.now) c.args.func c.args.args.now c.args.returned _ _ c.commit.result c.outs.result.now (some_targets c.in_ok-last.last) (targets_of c.in_ok-all.all.items)
    (c.in_ok-say.ensures w h) (c.in_ok-say-2.ensures w h) c.commit.ensures c.outs.ensures (c.in_ok-last.ensures w h) c.in_ok-all.ensures
