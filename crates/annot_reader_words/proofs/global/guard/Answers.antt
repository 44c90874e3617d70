use Rattle.std.proofs.Common.{None, Ok, Err, refl, sym, subst, arith}
use Rattle.c_syntax.specs.declared.declaration.Annot.{Annot}
use Rattle.c_syntax.specs.Stands.{StandsAnnot}
use Rattle.annot_reader_words.proofs.Composing.{raised, same_tells}
use Rattle.annot_reader_words.specs.Readings.{IsSame}
use Rattle.annot_reader_words.specs.Steps.{guard_step}
use Rattle.annot_reader_words.proofs.Folding.{at_end, at_first, broken_next, fold}
use Rattle.annot_reader_words.proofs.Folds.{guards_fold}
use Rattle.annot_reader_words.proofs.Lists.{annots_in, annots_stand}
use Rattle.annot_reader_words.proofs.global.guard.Goals as goal

pub loop-annot-init : goal.loop-annot-init
loop-annot-init c = λ N an h. at_first (StandsAnnot N) guard_step IsSame IsSame c.args.annots.now (annots_in an) None (annots_stand N c.args.annots.now an h)

pub returns-in_err-guard : goal.returns-in_err-guard
returns-in_err-guard c = λ N an h.
    let all = fold guard_step (annots_in an) None in
    let e = c.in_err-guard.field-0.0 in
    raised IsSame _ c.from_residual.result e c.from_residual.ensures.1
    (same_tells IsSame _ all (Err e) (guards_fold an None)
    (broken_next (StandsAnnot N) guard_step IsSame IsSame c.args.annots.now c.loop-annot.annot-index c.annot-item.result c.loop-annot.guard all e (omega arith) (c.loop-annot.invariant N an h)
    (λ x s. c.in_err-guard.ensures N x (subst (λ (v : Annot). StandsAnnot N v x) (sym c.annot-item.is) s))))

pub returns : goal.returns
returns c = λ N an h.
    let all = fold guard_step (annots_in an) None in
    same_tells IsSame _ all (Ok c.loop-annot.guard) (guards_fold an None)
    (at_end (StandsAnnot N) guard_step IsSame IsSame c.args.annots.now c.loop-annot.annot-index c.loop-annot.guard all c.loop-annot.guard (omega arith) (c.loop-annot.invariant N an h) refl)
