use Rattle.std.proofs.Common.{Ok, Err, sym, subst, arith}
use Rattle.c_syntax.specs.declared.declaration.Annot.{Annot}
use Rattle.c_syntax.specs.Stands.{StandsAnnot}
use Rattle.annot_reader_rules.specs.Regions.{all_marked, marked, unmarked}
use Rattle.annot_reader_words.proofs.Composing.{raised, same_tells}
use Rattle.annot_reader_words.proofs.Folding.{at_end, at_first, broken_next, fold, past_next}
use Rattle.annot_reader_words.proofs.Lists.{annots_in, annots_stand}
use Rattle.annot_reader_functions.specs.Marking.{AreMarks}
use Rattle.annot_reader_functions.proofs.Marking.{marked_fold, nothing_marked}
use Rattle.annot_reader_functions.proofs.marks.marks_of.Goals as goal

pub loop-annot-init : goal.loop-annot-init
loop-annot-init c = λ N an h. (unmarked, nothing_marked N, at_first (StandsAnnot N) marked (AreMarks N) (AreMarks N) c.args.annots.now (annots_in an) unmarked (annots_stand N c.args.annots.now an h))

pub loop-annot-preserved : goal.loop-annot-preserved
loop-annot-preserved c = λ N an h.
    let i = c.loop-annot.invariant N an h in
    past_next (StandsAnnot N) marked (AreMarks N) (AreMarks N) c.args.annots.now c.loop-annot.annot-index c.annot-item.result i.0 (fold marked (annots_in an) unmarked) c.in_ok-marks.marks (omega arith) i.2
    (λ x s. c.in_ok-marks.ensures N x i.0 (subst (λ (v : Annot). StandsAnnot N v x) (sym c.annot-item.is) s) i.1)

pub returns-in_err-marks : goal.returns-in_err-marks
returns-in_err-marks c = λ N an h.
    let i = c.loop-annot.invariant N an h in
    let all = fold marked (annots_in an) unmarked in
    let e = c.in_err-marks.field-0.0 in
    raised (AreMarks N) (all_marked an unmarked) c.from_residual.result e c.from_residual.ensures.1
    (same_tells (AreMarks N) (all_marked an unmarked) all (Err e) (marked_fold an unmarked)
    (broken_next (StandsAnnot N) marked (AreMarks N) (AreMarks N) c.args.annots.now c.loop-annot.annot-index c.annot-item.result i.0 all e (omega arith) i.2
    (λ x s. c.in_err-marks.ensures N x i.0 (subst (λ (v : Annot). StandsAnnot N v x) (sym c.annot-item.is) s) i.1)))

pub returns : goal.returns
returns c = λ N an h.
    let i = c.loop-annot.invariant N an h in
    let all = fold marked (annots_in an) unmarked in
    same_tells (AreMarks N) (all_marked an unmarked) all (Ok c.loop-annot.marks) (marked_fold an unmarked)
    (at_end (StandsAnnot N) marked (AreMarks N) (AreMarks N) c.args.annots.now c.loop-annot.annot-index i.0 all c.loop-annot.marks (omega arith) i.2 i.1)
