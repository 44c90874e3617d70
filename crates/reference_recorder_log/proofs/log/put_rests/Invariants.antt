use Rattle.std.proofs.Common.{◌≡◌, ◌++◌, drop}
use Rattle.recorder_book.specs.Chunks.{chunks_text, rests}
use Rattle.reference_recorder_marks.specs.Marks.{past}
use Rattle.reference_recorder_log.specs.Records.{all_of}
use Rattle.reference_recorder_log.proofs.log.put_rests.Given as goal

abbrev pub invariant-loop-thread : goal.invariant-loop-thread
invariant-loop-thread l = l.log.items ++ chunks_text (rests l.chunk l.thread (drop l.thread (all_of (past l.marks)))) ≡ l.fn.log.items ++ chunks_text (rests l.chunk 0 (all_of (past l.marks)))
