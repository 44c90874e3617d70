use Rattle.std.proofs.Common.{◌≤◌, length, take, ◌∙◌, arith}
use Rattle.whole_runs.specs.Ends.{bytes_of, events_of}
use Rattle.reference_recorder_marks.specs.Marks.{past}
use Rattle.reference_recorder_records.specs.Recordable.{IsRecordable}
use Rattle.reference_recorder_records.proofs.Counted.{all_at, at_end, bytes_more, bytes_small, front_events}
use Rattle.reference_recorder_records.proofs.counts.bytes.Goals as goal

pub bytes_at-requires : goal.bytes_at-requires
bytes_at-requires c = all_at IsRecordable c.args.marks.now c.loop-mark.mark-index c.mark-item.result c.requires.form c.loop-mark-test.true c.mark-item.is

pub overflow_add-total : goal.overflow_add-total
overflow_add-total c =
    let le : length (events_of (past (take c.loop-mark.mark-index c.args.marks.now))) ≤ length (events_of (past c.args.marks.now)) = front_events c.args.marks.now c.loop-mark.mark-index in
    omega (arith, le, c.requires.few, c.loop-mark.invariant.1, c.in_ok-more.ensures.small)

pub loop-mark-preserved : goal.loop-mark-preserved
loop-mark-preserved c = (
  bytes_more c.args.marks.now c.loop-mark.mark-index c.mark-item.result c.loop-mark-test.true c.mark-item.is c.loop-mark.total _ c.in_ok-more.ensures.size c.loop-mark.invariant.0,
  bytes_small c.args.marks.now c.loop-mark.mark-index c.mark-item.result c.loop-mark-test.true c.mark-item.is c.loop-mark.total _ c.in_ok-more.ensures.size c.in_ok-more.ensures.small c.loop-mark.invariant.1,
)

pub returns : goal.returns
returns c = let le : length c.args.marks.now ≤ c.loop-mark.mark-index = omega arith in c.loop-mark.invariant.0 ∙ at_end bytes_of c.args.marks.now c.loop-mark.mark-index le
