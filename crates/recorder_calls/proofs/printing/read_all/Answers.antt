use Rattle.recorder_calls.proofs.Read.{read_more, read_whole}
use Rattle.recorder_calls.proofs.printing.read_all.Goals as goal

pub loop-range-preserved : goal.loop-range-preserved
loop-range-preserved c = read_more c.args.spaces.now c.args.thread c.args.ranges.now c.loop-range.range-index _ c.loop-range.bytes.items c.read_on.new.bytes.items c.loop-range-test.true c.loop-range.invariant c.in_ok-read_on.ensures

pub returns : goal.returns
returns c = read_whole c.args.spaces.now c.args.thread c.args.ranges.now c.loop-range.range-index c.loop-range.bytes.items c.loop-range-test.false c.loop-range.invariant
