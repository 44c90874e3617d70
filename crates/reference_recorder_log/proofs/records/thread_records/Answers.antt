use Rattle.std.proofs.Common.{◌≤◌, length, ◌∙◌, ap, arith}
use Rattle.std.proofs.lemmas.List.{take_all}
use Rattle.reference_recorder_marks.specs.Marks.{past}
use Rattle.reference_recorder_log.specs.Records.{records_of}
use Rattle.reference_recorder_log.proofs.Written.{records_more}
use Rattle.reference_recorder_log.proofs.records.thread_records.Goals as goal

pub loop-mark-preserved : goal.loop-mark-preserved
loop-mark-preserved c = records_more c.args.marks.now c.loop-mark.mark-index c.mark-item.result c.loop-mark-test.true c.mark-item.is c.args.thread c.loop-mark.records.items c.add_record.new.records.items c.in_ok-add_record.ensures c.loop-mark.invariant

pub returns : goal.returns
returns c =
    let le : length c.args.marks.now ≤ c.loop-mark.mark-index = omega arith in
    c.loop-mark.invariant ∙ ap (λ ms. records_of (past ms) c.args.thread) (take_all c.loop-mark.mark-index c.args.marks.now le)
