use Rattle.std.proofs.Common.{◌∙◌, arith}
use Rattle.reference_recorder_marks.specs.Marks.{past}
use Rattle.reference_recorder_log.specs.Records.{records_of}
use Rattle.reference_recorder_log.proofs.Written.{all_records, range_more}
use Rattle.reference_recorder_log.proofs.records.all_records.Goals as goal

pub loop-thread-preserved : goal.loop-thread-preserved
loop-thread-preserved c = range_more (records_of (past c.args.marks.now)) c.loop-thread.thread c.loop-thread.threads.items c.push.new.self.items c.from-entry.result c.loop-thread.invariant c.in_ok-push.ensures.items (c.from-entry.ensures ∙ c.in_ok-records.ensures)

pub returns : goal.returns
returns c = all_records (past c.args.marks.now) c.loop-thread.thread c.from-all.result (c.from-all.ensures ∙ c.loop-thread.invariant) (omega arith)
