use Rattle.std.proofs.Common.{ap, length, sym, subst}
use Rattle.marks.specs.Places.{thread_count}
use Rattle.recorder_book.specs.Chunks.{AreKept}
use Rattle.recorder_book.proofs.Runs.{none_kept}
use Rattle.recorder_book.proofs.book.Book.new.Goals as goal

pub invariant_of-result : goal.invariant_of-result
invariant_of-result c = record {
  chunk = c.requires;
  threads = ap length c.in_ok-threads.ensures;
  records = subst AreKept (sym c.in_ok-threads.ensures) (none_kept thread_count);
}
