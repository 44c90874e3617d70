use Rattle.std.proofs.Common.{arith}
use Rattle.reference_recorder_crossings.proofs.CallChecks.{one_more}
use Rattle.reference_recorder_crossings.proofs.calls.held_ranges.Goals as goal

pub loop-one-preserved : goal.loop-one-preserved
loop-one-preserved c =
    one_more c.args.outs.now c.loop-one.held.items c.push.new.self.items c.args.prepared.now c.loop-one.one-index c.one-item.result c.range_of.result (omega arith) c.one-item.is c.range_of.ensures
    c.loop-one.invariant c.in_ok-push.ensures.items
