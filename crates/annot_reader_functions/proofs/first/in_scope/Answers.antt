use Rattle.std.proofs.Common.{Ok, Err, ap, sym, subst, arith}
use Rattle.c_types_table.specs.Tables.{all_at}
use Rattle.c_types_rules.specs.Environment.{inner}
use Rattle.annot_reader_rules.specs.Functions.{all_parameters, within}
use Rattle.annot_reader_words.specs.Answers.{Tells}
use Rattle.annot_reader_words.proofs.Composing.{raised}
use Rattle.annot_reader_functions.specs.Rules.{Declared}
use Rattle.annot_reader_functions.specs.Parameters.{AreTypes}
use Rattle.annot_reader_functions.proofs.Around.{closed, opened_known}
use Rattle.annot_reader_functions.proofs.Listing.{AreIn}
use Rattle.annot_reader_functions.specs.Seen.{declared_by}
use Rattle.annot_reader_functions.proofs.first.in_scope.Goals as goal

pub parameters-requires-clause-types : goal.parameters-requires-clause-types
parameters-requires-clause-types c = subst (λ (d : Declared). AreTypes d c.args.types.now) (sym (ap declared_by c.in_ok-open_scope.ensures.opened)) c.requires.types

pub returns-in_err-params-clause-agrees : goal.returns-in_err-params-clause-agrees
returns-in_err-params-clause-agrees c = λ ds s h k.
    let before = declared_by c.args.env.now in
    let opened = (ap declared_by c.in_ok-open_scope.ensures.opened) in
    let e = c.in_err-params.field-0.0 in
    raised AreIn (all_parameters ds (within s (inner s.env)) 0 (all_at before.types c.args.types.now)) c.from_residual-in_err-params.result e c.from_residual-in_err-params.ensures.1
    (subst (λ (d : Declared). Tells AreIn (all_parameters ds (within s (inner s.env)) 0 (all_at d.types c.args.types.now)) (Err e)) opened
    (c.in_err-params.ensures.agrees ds (within s (inner s.env)) h (opened_known c.args.signature.now before _ s opened k)))

pub close_scope-requires : goal.close_scope-requires
close_scope-requires c = let deep = c.in_ok-params.ensures.around.depth in let one = c.in_ok-open_scope.ensures.within in omega (arith, deep, one)

pub returns-clause-agrees : goal.returns-clause-agrees
returns-clause-agrees c = λ ds s h k.
    let before = declared_by c.args.env.now in
    let opened = (ap declared_by c.in_ok-open_scope.ensures.opened) in
    subst (λ (d : Declared). Tells AreIn (all_parameters ds (within s (inner s.env)) 0 (all_at d.types c.args.types.now)) (Ok c.in_ok-params.params)) opened
    (c.in_ok-params.ensures.agrees ds (within s (inner s.env)) h (opened_known c.args.signature.now before _ s opened k))

pub returns-clause-kept : goal.returns-clause-kept
returns-clause-kept c = closed _ _ _ _ (ap declared_by c.in_ok-open_scope.ensures.opened) c.in_ok-params.ensures.around (ap declared_by c.close_scope.ensures)
