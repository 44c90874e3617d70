use Rattle.std.proofs.Common.{◌≡◌, take}
use Rattle.reference_recorder_marks.specs.Marks.{past}
use Rattle.reference_recorder_log.specs.Records.{records_of}
use Rattle.reference_recorder_log.proofs.records.thread_records.Given as goal

abbrev pub invariant-loop-mark : goal.invariant-loop-mark
invariant-loop-mark l = l.records.items ≡ records_of (past (take l.mark-index l.marks)) l.thread
