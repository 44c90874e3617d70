use Rattle.std.proofs.Common.{sym, subst}
use Rattle.c_syntax.specs.Stands.{StandAnnots}
use Rattle.annot_reader_rules.specs.Functions.{global_notes}
use Rattle.annot_reader_words.proofs.Composing.{raised}
use Rattle.annot_reader_words.specs.Readings.{IsMutex}
use Rattle.annot_reader_words.proofs.Globals.{broken_around, broken_word, guarded}
use Rattle.annot_reader_words.proofs.global.global_notes.Goals as goal

pub returns-in_err-bare_around : goal.returns-in_err-bare_around
returns-in_err-bare_around c = λ d h.
    let e = c.in_err-bare_around.field-0.0 in
    raised IsMutex (global_notes d) c.from_residual.result e c.from_residual.ensures.1
    (broken_around d e (c.in_err-bare_around.ensures d (c.decl_node-decl.ensures.shows d h)))

pub returns-in_err-guard : goal.returns-in_err-guard
returns-in_err-guard c = λ d h.
    let e = c.in_err-guard.field-0.0 in
    let N = c.args.tree.now in
    let s = c.decl_node-decl.ensures.shows d h in
    raised IsMutex (global_notes d) c.from_residual-in_err-guard.result e c.from_residual-in_err-guard.ensures.1
    (broken_word N c.decl_node-decl.result.now d e s (c.in_ok-bare_around.ensures d s) (λ an a. c.in_err-guard.ensures N an (subst (λ vs. StandAnnots N vs an) (sym c.as_slice.ensures.items) a)))

pub returns : goal.returns
returns c = λ d h.
    let N = c.args.tree.now in
    let s = c.decl_node-decl.ensures.shows d h in
    guarded N c.decl_node-decl.result.now d c.in_ok-guard.field-0 c.as_int.result s (c.in_ok-bare_around.ensures d s) (λ an a. c.in_ok-guard.ensures N an (subst (λ vs. StandAnnots N vs an) (sym c.as_slice.ensures.items) a)) c.as_int.ensures
