use Rattle.std.proofs.Common.{◌<◌, [], length, get_or, sym, ap, ◌∙◌, subst, arith}
use Rattle.std.proofs.lemmas.List.{get_or_read}
use Rattle.recorder_book.specs.Book.{IsBookOf}
use Rattle.recorder_book.proofs.Threads.{records_at}
use Rattle.recorder_book.proofs.book.Book.records.Goals as goal

pub returns : goal.returns
returns c = λ w past k.
    let b = c.self.inside in
    let t = c.args.thread in
    let book = subst (IsBookOf w past) (sym c.self.view_is) k in
    let below : t < length b.threads.items = omega (arith, c.requires, c.self.invariant.threads) in
    c.as_slice.ensures ∙ (get_or_read b.threads.items t _ below c.index.ensures [] ∙ (ap (λ ts. get_or ts t []) book.threads ∙ records_at w past t [] c.requires))
