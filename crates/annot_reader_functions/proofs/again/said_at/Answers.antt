use Rattle.std.proofs.Common.{◌<◌, length, get_or, Ok, Err, subst, arith}
use Rattle.std.proofs.lemmas.Option.{get_or_from_slice_get}
use Rattle.c_syntax.specs.declared.declaration.Annot.{Annot}
use Rattle.c_syntax.specs.Stands.{StandsAnnot}
use Rattle.annot_reader_rules.specs.Functions.{all_noted, nothing}
use Rattle.annot_reader_rules.specs.Notes.{Notes}
use Rattle.annot_reader_words.proofs.Composing.{raised, same_tells}
use Rattle.annot_reader_words.proofs.Folding.{at_end, at_first, broken_next, fold, past_next}
use Rattle.annot_reader_words.proofs.Lists.{annots_in}
use Rattle.annot_reader_functions.proofs.Saying.{known_stays, stays_here, stays_through}
use Rattle.annot_reader_functions.specs.Known.{parameter_words}
use Rattle.annot_reader_functions.specs.Parameters.{AreItems}
use Rattle.annot_reader_functions.specs.Sayings.{AreSaid, IsSaid, kind_in}
use Rattle.annot_reader_functions.specs.Steps.{noted_step}
use Rattle.annot_reader_functions.proofs.Composed.{items_at}
use Rattle.annot_reader_functions.proofs.Placing.{StandsAt, listed_inside, stand_listed, stands_there}
use Rattle.annot_reader_functions.proofs.Wording.{noted_fold}
use Rattle.annot_reader_functions.proofs.again.said_at.Goals as goal

pub loop-place-init : goal.loop-place-init
loop-place-init c = (
  stays_here _,
  λ an s h k.
      let N = c.args.tree.now in
      let step = noted_step s (kind_in c.args.subject.now.kind) in
      let js = AreSaid c.args.subject.now.cut.now in
      (nothing, c.nothing-said.ensures c.args.subject.now.cut.now, at_first (StandsAt N c.args.annots.now) step js js c.args.places.now (annots_in (parameter_words an)) nothing (stand_listed N c.args.annots.now c.args.places.now an h (c.requires.places an h))),
)

pub annot_at-requires : goal.annot_at-requires
annot_at-requires c = listed_inside c.args.tree.now c.args.annots.now c.args.places.now c.loop-place.place-index 0 c.requires.annots c.requires.places c.loop-place-test.true

pub note-requires-clause-items : goal.note-requires-clause-items
note-requires-clause-items c =
    let N = c.args.tree.now in
    let vs = c.args.annots.now in
    let place = get_or c.args.places.now c.loop-place.place-index 0 in
    let inside : place < length vs = listed_inside N vs c.args.places.now c.loop-place.place-index 0 c.requires.annots c.requires.places c.loop-place-test.true in
    subst (λ (v : Annot). AreItems N v.items) (get_or_from_slice_get vs place c.annot_at.result.now c.annot_at.result.now c.annot_at.ensures) (items_at N vs place c.annot_at.result.now c.requires.annots inside)

pub loop-place-preserved : goal.loop-place-preserved
loop-place-preserved c = (
  stays_through _ _ _ c.loop-place.invariant.0 c.in_ok-note.ensures.kept,
  λ an s h k.
      let N = c.args.tree.now in
      let step = noted_step s (kind_in c.args.subject.now.kind) in
      let js = AreSaid c.args.subject.now.cut.now in
      let is : Notes → Unit {0} → Type 0 = λ n u. IsSaid c.args.subject.now.cut.now c.note.new.said n in
      let i = c.loop-place.invariant.1 an s h k in
      past_next (StandsAt N c.args.annots.now) step is js c.args.places.now c.loop-place.place-index 0 i.0 (fold step (annots_in (parameter_words an)) nothing) tt (omega arith) i.2
      (λ x t. c.in_ok-note.ensures.agrees x s i.0 (subst (λ (v : Annot). StandsAnnot N v x) (get_or_from_slice_get c.args.annots.now (get_or c.args.places.now c.loop-place.place-index 0) c.annot_at.result.now c.annot_at.result.now c.annot_at.ensures) (stands_there N c.args.annots.now (get_or c.args.places.now c.loop-place.place-index 0) c.annot_at.result.now x t)) (known_stays _ _ _ s c.loop-place.invariant.0.env k) i.1),
)

pub returns-in_err-note-clause-agrees : goal.returns-in_err-note-clause-agrees
returns-in_err-note-clause-agrees c = λ an s h k.
    let N = c.args.tree.now in
    let kind = kind_in c.args.subject.now.kind in
    let step = noted_step s kind in
    let js = AreSaid c.args.subject.now.cut.now in
    let is : Notes → Unit {0} → Type 0 = λ n u. IsSaid c.args.subject.now.cut.now c.note.new.said n in
    let i = c.loop-place.invariant.1 an s h k in
    let some = parameter_words an in
    let all = fold step (annots_in some) nothing in
    let e = c.in_err-note.field-0.0 in
    raised js (all_noted some s kind nothing) c.from_residual.result e c.from_residual.ensures.1
    (same_tells js (all_noted some s kind nothing) all (Err e) (noted_fold some s kind nothing)
    (broken_next (StandsAt N c.args.annots.now) step is js c.args.places.now c.loop-place.place-index 0 i.0 all e (omega arith) i.2
    (λ x t. c.in_err-note.ensures.agrees x s i.0 (subst (λ (v : Annot). StandsAnnot N v x) (get_or_from_slice_get c.args.annots.now (get_or c.args.places.now c.loop-place.place-index 0) c.annot_at.result.now c.annot_at.result.now c.annot_at.ensures) (stands_there N c.args.annots.now (get_or c.args.places.now c.loop-place.place-index 0) c.annot_at.result.now x t)) (known_stays _ _ _ s c.loop-place.invariant.0.env k) i.1)))

pub returns-in_err-note-clause-kept : goal.returns-in_err-note-clause-kept
returns-in_err-note-clause-kept c = stays_through _ _ _ c.loop-place.invariant.0 c.in_err-note.ensures.kept

pub returns-clause-agrees : goal.returns-clause-agrees
returns-clause-agrees c = λ an s h k.
    let N = c.args.tree.now in
    let kind = kind_in c.args.subject.now.kind in
    let step = noted_step s kind in
    let js = AreSaid c.args.subject.now.cut.now in
    let i = c.loop-place.invariant.1 an s h k in
    let some = parameter_words an in
    let all = fold step (annots_in some) nothing in
    same_tells js (all_noted some s kind nothing) all (Ok c.loop-place.said) (noted_fold some s kind nothing)
    (at_end (StandsAt N c.args.annots.now) step js js c.args.places.now c.loop-place.place-index i.0 all c.loop-place.said (omega arith) i.2 i.1)

pub returns-clause-kept : goal.returns-clause-kept
returns-clause-kept c = c.loop-place.invariant.0
