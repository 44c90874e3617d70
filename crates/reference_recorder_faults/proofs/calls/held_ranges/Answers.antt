use Rattle.std.proofs.Common.{◌∙◌}
use Rattle.reference_recorder_faults.proofs.FirstBad.{ranges_more}
use Rattle.reference_recorder_faults.proofs.calls.held_ranges.Goals as goal

pub loop-one-preserved : goal.loop-one-preserved
loop-one-preserved c = c.in_ok-push.ensures.items
    ∙ ranges_more c.args.outs.now c.loop-one.held.items c.args.prepared.now c.loop-one.one-index c.one-item.result c.range_of.result c.loop-one-test.true c.one-item.is c.range_of.ensures c.loop-one.invariant
