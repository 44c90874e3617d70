use Rattle.reference_recorder_calls.proofs.Lists.{ranges_more}
use Rattle.reference_recorder_calls.proofs.calls.ranges_of.Goals as goal

pub loop-piece-preserved : goal.loop-piece-preserved
loop-piece-preserved c = ranges_more c.args.pieces.now c.loop-piece.piece-index c.piece-item.result c.loop-piece-test.true c.piece-item.is c.loop-piece.ranges.items c.push.new.self.items c.range_of.result c.range_of.ensures c.in_ok-push.ensures.items c.loop-piece.invariant
