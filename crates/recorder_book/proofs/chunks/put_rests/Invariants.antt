use Rattle.std.proofs.Common.{◌≡◌, ◌++◌, drop}
use Rattle.recorder_book.specs.Chunks.{chunks_text, rests}
use Rattle.recorder_book.proofs.chunks.put_rests.Given as goal

abbrev pub invariant-loop-thread : goal.invariant-loop-thread
invariant-loop-thread l = l.log.items ++ chunks_text (rests l.chunk l.thread (drop l.thread l.threads)) ≡ l.fn.log.items ++ chunks_text (rests l.chunk 0 l.threads)
