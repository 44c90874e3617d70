use Rattle.std.proofs.Common.{Ok, Err, sym, subst, arith}
use Rattle.c_syntax.specs.declared.declaration.Annot.{Annot}
use Rattle.c_syntax.specs.Stands.{StandsAnnot}
use Rattle.annot_reader_rules.specs.Functions.{all_noted, nothing}
use Rattle.annot_reader_rules.specs.Notes.{Notes}
use Rattle.annot_reader_words.proofs.Composing.{raised, same_tells}
use Rattle.annot_reader_words.proofs.Folding.{at_end, at_first, broken_next, fold, past_next}
use Rattle.annot_reader_words.proofs.Lists.{annots_in, annots_stand}
use Rattle.annot_reader_functions.proofs.Saying.{known_stays, stays_here, stays_through}
use Rattle.annot_reader_functions.specs.Parameters.{AreItems}
use Rattle.annot_reader_functions.specs.Sayings.{AreSaid, IsSaid, kind_in}
use Rattle.annot_reader_functions.specs.Steps.{noted_step}
use Rattle.annot_reader_functions.proofs.Composed.{items_at}
use Rattle.annot_reader_functions.proofs.Wording.{noted_fold}
use Rattle.annot_reader_functions.proofs.list.said_of.Goals as goal

pub loop-annot-init : goal.loop-annot-init
loop-annot-init c = (
  stays_here _,
  λ an s h k.
      let step = noted_step s (kind_in c.args.subject.now.kind) in
      let js = AreSaid c.args.subject.now.cut.now in
      (nothing, c.nothing-said.ensures c.args.subject.now.cut.now, at_first (StandsAnnot c.args.tree.now) step js js c.args.annots.now (annots_in an) nothing (annots_stand c.args.tree.now c.args.annots.now an h)),
)

pub note-requires-clause-items : goal.note-requires-clause-items
note-requires-clause-items c =
    subst (λ (v : Annot). AreItems c.args.tree.now v.items) (sym c.annot-item.is) (items_at c.args.tree.now c.args.annots.now c.loop-annot.annot-index c.annot-item.result c.requires.annots (omega arith))

pub loop-annot-preserved : goal.loop-annot-preserved
loop-annot-preserved c = (
  stays_through _ _ _ c.loop-annot.invariant.0 c.in_ok-note.ensures.kept,
  λ an s h k.
      let N = c.args.tree.now in
      let step = noted_step s (kind_in c.args.subject.now.kind) in
      let js = AreSaid c.args.subject.now.cut.now in
      let is : Notes → Unit {0} → Type 0 = λ n u. IsSaid c.args.subject.now.cut.now c.note.new.said n in
      let i = c.loop-annot.invariant.1 an s h k in
      past_next (StandsAnnot N) step is js c.args.annots.now c.loop-annot.annot-index c.annot-item.result i.0 (fold step (annots_in an) nothing) tt (omega arith) i.2
      (λ x t. c.in_ok-note.ensures.agrees x s i.0 (subst (λ (v : Annot). StandsAnnot N v x) (sym c.annot-item.is) t) (known_stays _ _ _ s c.loop-annot.invariant.0.env k) i.1),
)

pub returns-in_err-note-clause-agrees : goal.returns-in_err-note-clause-agrees
returns-in_err-note-clause-agrees c = λ an s h k.
    let N = c.args.tree.now in
    let kind = kind_in c.args.subject.now.kind in
    let step = noted_step s kind in
    let js = AreSaid c.args.subject.now.cut.now in
    let is : Notes → Unit {0} → Type 0 = λ n u. IsSaid c.args.subject.now.cut.now c.note.new.said n in
    let i = c.loop-annot.invariant.1 an s h k in
    let all = fold step (annots_in an) nothing in
    let e = c.in_err-note.field-0.0 in
    raised js (all_noted an s kind nothing) c.from_residual.result e c.from_residual.ensures.1
    (same_tells js (all_noted an s kind nothing) all (Err e) (noted_fold an s kind nothing)
    (broken_next (StandsAnnot N) step is js c.args.annots.now c.loop-annot.annot-index c.annot-item.result i.0 all e (omega arith) i.2
    (λ x t. c.in_err-note.ensures.agrees x s i.0 (subst (λ (v : Annot). StandsAnnot N v x) (sym c.annot-item.is) t) (known_stays _ _ _ s c.loop-annot.invariant.0.env k) i.1)))

pub returns-in_err-note-clause-kept : goal.returns-in_err-note-clause-kept
returns-in_err-note-clause-kept c = stays_through _ _ _ c.loop-annot.invariant.0 c.in_err-note.ensures.kept

pub returns-clause-agrees : goal.returns-clause-agrees
returns-clause-agrees c = λ an s h k.
    let N = c.args.tree.now in
    let kind = kind_in c.args.subject.now.kind in
    let step = noted_step s kind in
    let js = AreSaid c.args.subject.now.cut.now in
    let i = c.loop-annot.invariant.1 an s h k in
    let all = fold step (annots_in an) nothing in
    same_tells js (all_noted an s kind nothing) all (Ok c.loop-annot.said) (noted_fold an s kind nothing)
    (at_end (StandsAnnot N) step js js c.args.annots.now c.loop-annot.annot-index i.0 all c.loop-annot.said (omega arith) i.2 i.1)

pub returns-clause-kept : goal.returns-clause-kept
returns-clause-kept c = c.loop-annot.invariant.0
