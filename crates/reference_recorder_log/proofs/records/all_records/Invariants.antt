use Rattle.std.proofs.Common.{◌≡◌, map}
use Rattle.std.specs.List.{range_with_len}
use Rattle.reference_recorder_marks.specs.Marks.{past}
use Rattle.reference_recorder_log.specs.Records.{records_of}
use Rattle.reference_recorder_log.proofs.records.all_records.Given as goal

abbrev pub invariant-loop-thread : goal.invariant-loop-thread
invariant-loop-thread l = l.threads.items ≡ map (records_of (past l.marks)) (range_with_len 0 l.thread)
