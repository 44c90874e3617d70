use Rattle.std.proofs.Common.{◌≡◌, []}
use Rattle.std.specs.Prelude.{replicate}
use Rattle.recorder_book.proofs.book.no_records.Given as goal

abbrev pub invariant-loop : goal.invariant-loop
invariant-loop l = l.threads.items ≡ replicate l.counter []
