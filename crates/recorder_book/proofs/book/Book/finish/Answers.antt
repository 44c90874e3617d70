use Rattle.std.proofs.Common.{◌++◌, sym, ap, ◌∙◌, subst}
use Rattle.recorder_book.specs.Chunks.{chunks_text, rests}
use Rattle.recorder_book.specs.Book.{BookState, IsBookOf}
use Rattle.recorder_book.proofs.Runs.{whole_log}
use Rattle.recorder_book.proofs.book.Book.finish.Goals as goal

pub returns-clause-log : goal.returns-clause-log
returns-clause-log c = λ w run k.
    let b = c.self.inside in
    let old : BookState = record { chunk = b.chunk; events = b.events; bytes = b.bytes; log = b.log.items; threads = b.threads.items } in
    whole_log old c.put_rests.new.log.items c.from.result c.self.invariant
    (c.in_ok-put_rests.ensures ∙ ap (λ ts. b.log.items ++ chunks_text (rests b.chunk 0 ts)) c.deref.ensures.value)
    (c.from.ensures ∙ c.in_ok-put_end.ensures.ok)
    w run (subst (IsBookOf w run) (sym c.self.view_is) k)
