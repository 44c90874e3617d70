use Rattle.std.proofs.Common.{◌≡◌, ℕ, Option, nat_eq, length, take, sym, ap, ◌∙◌, arith}
use Rattle.std.proofs.lemmas.List.{length-take-le}
use Rattle.c_types_program.specs.Programs.{texts_in}
use Rattle.c_lower_layout.specs.Indexed.{found, or_there}
use Rattle.c_lower_layout.proofs.Found.{found_more, texts_length, texts_more}
use Rattle.c_lower_layout.proofs.orders.orders.Goals as goal

pub loop-place-preserved : goal.loop-place-preserved
loop-place-preserved c = λ q.
    let n = c.loop-place.place in
    let so_far = texts_in (take n c.args.texts.now) in
    let t = c.index-texts-place.result in
    let at : c.small.result ≡ length so_far = c.small.ensures ∙ sym (texts_length (take n c.args.texts.now) ∙ length-take-le n c.args.texts.now (omega arith)) in
    c.in_ok-note.ensures q
    ∙ (ap (λ (o : Option ℕ). or_there o (nat_eq q t.from) c.small.result) (c.loop-place.invariant q)
    ∙ (ap (or_there (found q so_far) (nat_eq q t.from)) at
    ∙ (sym (found_more q t.from so_far) ∙ ap (found q) (sym (texts_more c.args.texts.now n t c.index-texts-place.is (omega arith))))))
