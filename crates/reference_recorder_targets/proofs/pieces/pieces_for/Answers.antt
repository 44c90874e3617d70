use Rattle.std.proofs.Common.{arith}
use Rattle.reference_recorder_targets.proofs.Answered.{all_written}
use Rattle.reference_recorder_targets.proofs.pieces.pieces_for.Goals as goal

pub returns : goal.returns
returns c =
    all_written c.args.targets.now c.args.answers.now c.loop-place.place c.loop-place.pieces.items (let ends = c.loop-place-test.false in let count = c.min-count.ensures in omega (arith, ends, count)) c.loop-place.invariant
