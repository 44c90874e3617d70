use Rattle.marks.specs.declared.range.Range.{Range}
use Rattle.recorder_memory.proofs.Printed.{print_refused, read_more, all_printed}
use Rattle.recorder_memory.proofs.memory.Memory.print_below.Goals as goal

pub returns-in-Err-clause-refused : goal.returns-in-Err-clause-refused
returns-in-Err-clause-refused c =
    let none : Range = record { addr = 0; len = 0 } in
    print_refused c.args.self.now c.args.thread c.args.ranges.now c.loop-range.range-index none c.loop-range.bytes.items c.in-Err.refusal c.requires c.loop-range-test.true c.loop-range.invariant c.in-Err.ensures.refused

pub loop-range-preserved : goal.loop-range-preserved
loop-range-preserved c =
    let none : Range = record { addr = 0; len = 0 } in
    read_more c.args.self.now.above.spaces c.args.thread c.args.ranges.now c.loop-range.range-index none c.loop-range.bytes.items c.read_on.new.bytes.items c.loop-range-test.true c.loop-range.invariant c.in_default.ensures.read

pub returns-clause-printed : goal.returns-clause-printed
returns-clause-printed c = all_printed c.args.self.now c.args.thread c.args.ranges.now c.loop-range.range-index c.loop-range.bytes.items c.requires c.loop-range-test.false c.loop-range.invariant
