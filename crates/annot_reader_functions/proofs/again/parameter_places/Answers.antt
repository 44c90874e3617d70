use Rattle.std.proofs.Common.{◌+◌, List, ℕ, sym, ap, ◌∙◌, subst, arith}
use Rattle.c_syntax.specs.declared.declaration.Annot.{Annot}
use Rattle.annot_reader_words.specs.Words.{function_word}
use Rattle.annot_reader_functions.specs.Known.{of_parameters, with_place}
use Rattle.annot_reader_functions.proofs.Placing.{Left, at_end, at_first, past_next}
use Rattle.annot_reader_functions.proofs.again.parameter_places.Goals as goal

pub loop-place-init : goal.loop-place-init
loop-place-init c = λ N an h. subst (λ (done : List ℕ). Left N c.args.annots.now an 0 done) (sym c.new-places.ensures.items) (at_first N c.args.annots.now an h)

pub loop-place-preserved : goal.loop-place-preserved
loop-place-preserved c = λ N an h.
    let vs = c.args.annots.now in
    let k = c.loop-place.place in
    let one = ap (λ (v : Annot). with_place (of_parameters (function_word v.name)) k c.loop-place.places.items) c.index-annots-place.is in
    subst (λ (done : List ℕ). Left N vs an (k + 1) done) (sym (c.in_ok-add_place.ensures ∙ one))
    (past_next N vs an k c.index-annots-place.result c.loop-place.places.items (omega arith) (c.loop-place.invariant N an h))

pub returns : goal.returns
returns c = λ N an h. at_end N c.args.annots.now an c.loop-place.place c.loop-place.places.items (omega arith) (c.loop-place.invariant N an h)
