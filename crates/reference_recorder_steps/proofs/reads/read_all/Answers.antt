use Rattle.std.proofs.Common.{◌+◌, take, refl, sym, subst}
use Rattle.marks.specs.Ranges.{range}
use Rattle.recorder_state.specs.Inputs.{world_of}
use Rattle.reference_recorder_steps.specs.Reads.{AreRead}
use Rattle.reference_recorder_steps.proofs.Reading.{one_there, read_more}
use Rattle.reference_recorder_steps.proofs.reads.read_all.Goals as goal

pub bytes_in-requires : goal.bytes_in-requires
bytes_in-requires c =
    one_there (world_of c.args.inputs) c.args.inputs.placed.now c.args.marks.now c.args.ranges.now c.loop-range.range-index (range 0 0) refl
    c.loop-range-test.true c.requires

pub loop-range-preserved : goal.loop-range-preserved
loop-range-preserved c =
    let w = world_of c.args.inputs in
    subst (AreRead w c.args.marks.now (take (c.loop-range.range-index + 1) c.args.ranges.now)) (sym c.in_ok-push.ensures.items)
    (read_more w c.args.marks.now c.args.ranges.now c.loop-range.range-index (range 0 0) c.loop-range.pieces.items c.in_ok-bytes.bytes
    c.loop-range-test.true c.loop-range.invariant (c.in_ok-bytes.ensures w refl))
