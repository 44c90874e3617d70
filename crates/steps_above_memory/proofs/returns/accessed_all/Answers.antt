use Rattle.std.proofs.Common.{◌∙◌}
use Rattle.marks.specs.declared.range.Range.{Range}
use Rattle.steps_above_memory.proofs.Returning.{tell_more}
use Rattle.steps_above_memory.proofs.returns.accessed_all.Goals as goal

pub loop-range-preserved : goal.loop-range-preserved
loop-range-preserved c =
    let none : Range = record { addr = 0; len = 0 } in
    record {
      told = tell_more c.args.thread c.args.write c.args.ranges.now c.loop-range.range-index none c.args.watch.now c.loop-range.watch c.accessed.new.watch c.loop-range-test.true c.loop-range.invariant.told c.in_ok-accessed.ensures.told;
      threads = c.accessed.ensures.threads ∙ c.loop-range.invariant.threads;
      events = c.accessed.ensures.events ∙ c.loop-range.invariant.events;
    }
