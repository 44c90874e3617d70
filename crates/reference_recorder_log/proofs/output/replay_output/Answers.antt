use Rattle.reference_recorder_log.proofs.Printed.{output_all, output_more}
use Rattle.reference_recorder_log.proofs.output.replay_output.Goals as goal

pub loop-mark-preserved : goal.loop-mark-preserved
loop-mark-preserved c = output_more c.args.marks.now c.loop-mark.mark-index c.mark-item.result c.loop-mark-test.true c.mark-item.is c.loop-mark.bytes.items c.add_mark.new.to.items c.in_ok-add_mark.ensures c.loop-mark.invariant

pub returns : goal.returns
returns c = output_all c.args.marks.now c.loop-mark.mark-index c.loop-mark-test.false c.loop-mark.bytes.items c.loop-mark.invariant
