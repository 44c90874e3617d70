use Rattle.std.proofs.Common.{Ok, Err, arith}
use Rattle.c_syntax.specs.declared.id.DeclId.{DeclId}
use Rattle.c_syntax.specs.Stands.{StandsDecl}
use Rattle.annot_reader_rules.specs.Functions.{none_again}
use Rattle.annot_reader_words.specs.Answers.{Unsaid}
use Rattle.annot_reader_words.proofs.Composing.{raised, same_tells}
use Rattle.annot_reader_words.proofs.Folding.{at_end, at_first, broken_next, fold, past_next, stands_next}
use Rattle.annot_reader_words.proofs.Folds.{again_fold, again_step}
use Rattle.annot_reader_words.proofs.Lists.{decls_in, decls_stand}
use Rattle.annot_reader_words.proofs.again.none_again.Goals as goal

abbrev none : DeclId
none = record { 0 = 0 }

pub loop-id-init : goal.loop-id-init
loop-id-init c = λ ds h. at_first (StandsDecl c.args.tree.now) again_step Unsaid Unsaid c.args.ids.now (decls_in ds) tt (decls_stand c.args.tree.now c.args.ids.now ds h)

pub again-requires : goal.again-requires
again-requires c =
    let N = c.args.tree.now in
    let i = c.loop-id.invariant c.requires.0 c.requires.1 in
    stands_next (StandsDecl N) again_step Unsaid Unsaid c.args.ids.now c.loop-id.id-index none tt (fold again_step (decls_in c.requires.0) tt) (omega arith) i

pub loop-id-preserved : goal.loop-id-preserved
loop-id-preserved c = λ ds h.
    let N = c.args.tree.now in
    let t = past_next (StandsDecl N) again_step Unsaid Unsaid c.args.ids.now c.loop-id.id-index none tt (fold again_step (decls_in ds) tt) tt (omega arith) (c.loop-id.invariant ds h) c.in_ok-again.ensures in
    t.2

pub returns-in_err-again : goal.returns-in_err-again
returns-in_err-again c = λ ds h.
    let N = c.args.tree.now in
    let all = fold again_step (decls_in ds) tt in
    let e = c.in_err-again.field-0.0 in
    raised Unsaid (none_again ds) c.from_residual.result e c.from_residual.ensures.1
    (same_tells Unsaid (none_again ds) all (Err e) (again_fold ds)
    (broken_next (StandsDecl N) again_step Unsaid Unsaid c.args.ids.now c.loop-id.id-index none tt all e (omega arith) (c.loop-id.invariant ds h) c.in_err-again.ensures))

pub returns : goal.returns
returns c = λ ds h.
    let N = c.args.tree.now in
    let all = fold again_step (decls_in ds) tt in
    same_tells Unsaid (none_again ds) all (Ok tt) (again_fold ds)
    (at_end (StandsDecl N) again_step Unsaid Unsaid c.args.ids.now c.loop-id.id-index tt all tt (omega arith) (c.loop-id.invariant ds h) tt)
