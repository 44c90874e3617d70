use Rattle.std.proofs.Common.{◌+◌, List, Ok, Err, sym, subst, arith}
use Rattle.c_syntax.specs.declared.id.DeclId.{DeclId}
use Rattle.c_types_table.specs.Tables.{all_at}
use Rattle.annot_reader_rules.specs.Functions.{all_parameters}
use Rattle.annot_reader_words.proofs.Composing.{raised}
use Rattle.annot_reader_words.specs.declared.notes.Param.{Param}
use Rattle.annot_reader_functions.proofs.Around.{around_here, around_through, type_kept, typed_kept}
use Rattle.annot_reader_functions.proofs.Listing.{AreIn, Left, at_end, at_first, broken_next, decl_at, no_types, past_next}
use Rattle.annot_reader_functions.specs.Seen.{declared_by}
use Rattle.annot_reader_functions.proofs.parameters.parameters.Goals as goal

abbrev none : DeclId
none = record { 0 = 0 }

pub loop-place-init : goal.loop-place-init
loop-place-init c =
    let before = declared_by c.args.env.now in (
      around_here before,
      λ ds s h k. subst (λ (done : List Param). Left c.args.tree.now c.args.signature.now before.types c.args.ids.now c.args.types.now 0 before.env done (all_parameters ds s 0 (all_at before.types c.args.types.now))) (sym c.new-params.ensures.items)
          (at_first c.args.tree.now c.args.signature.now before.types c.args.ids.now c.args.types.now before.env ds s h k),
    )

pub parameter-requires-clause-id : goal.parameter-requires-clause-id
parameter-requires-clause-id c =
    decl_at c.args.tree.now c.args.ids.now c.loop-place.place none c.requires.ids (omega arith)

pub parameter-requires-clause-ty : goal.parameter-requires-clause-ty
parameter-requires-clause-ty c = typed_kept _ _ c.args.types.now c.loop-place.place c.in-Some.ty c.loop-place.invariant.0 c.requires.types (sym c.in-Some.ensures)

pub loop-place-preserved : goal.loop-place-preserved
loop-place-preserved c =
    let before = declared_by c.args.env.now in
    let now = declared_by c.loop-place.env in
    let after = declared_by c.parameter.new.env in
    let N = c.args.tree.now in (
      around_through before now after c.loop-place.invariant.0 c.in_ok-param.ensures.around,
      λ ds s h k.
          let all = all_parameters ds s 0 (all_at before.types c.args.types.now) in
          subst (λ (done : List Param). Left N c.args.signature.now before.types c.args.ids.now c.args.types.now (c.loop-place.place + 1) after.env done all) (sym c.in_ok-add.ensures)
          (past_next N c.args.signature.now before.types c.args.ids.now c.args.types.now c.loop-place.place none c.in-Some.ty now.env after c.loop-place.params.items c.in_ok-param.param all (omega arith) (sym c.in-Some.ensures) (c.loop-place.invariant.1 ds s h k) c.in_ok-param.ensures.around.structs
          (λ d t x y. type_kept before now c.args.types.now c.loop-place.place c.in-Some.ty c.loop-place.invariant.0 c.requires.types (sym c.in-Some.ensures) N d t c.loop-place.place after (Ok c.in_ok-param.param) (c.in_ok-param.ensures.agrees d t x y))),
    )

pub returns-in_default-clause-agrees : goal.returns-in_default-clause-agrees
returns-in_default-clause-agrees c = λ ds s h k.
    let before = declared_by c.args.env.now in
    let now = declared_by c.loop-place.env in
    no_types c.args.tree.now c.args.signature.now before.types c.args.ids.now c.args.types.now c.loop-place.place now.env c.loop-place.params _ (sym c.in_default.ensures) (c.loop-place.invariant.1 ds s h k)

pub returns-in_err-param-clause-agrees : goal.returns-in_err-param-clause-agrees
returns-in_err-param-clause-agrees c = λ ds s h k.
    let before = declared_by c.args.env.now in
    let now = declared_by c.loop-place.env in
    let after = declared_by c.parameter.new.env in
    let N = c.args.tree.now in
    let e = c.in_err-param.field-0.0 in
    let all = all_parameters ds s 0 (all_at before.types c.args.types.now) in
    raised AreIn all c.from_residual.result e c.from_residual.ensures.1
    (broken_next N c.args.signature.now before.types c.args.ids.now c.args.types.now c.loop-place.place none c.in-Some.ty now.env after c.loop-place.params.items all e (omega arith) (sym c.in-Some.ensures) (c.loop-place.invariant.1 ds s h k)
    (λ d t x y. type_kept before now c.args.types.now c.loop-place.place c.in-Some.ty c.loop-place.invariant.0 c.requires.types (sym c.in-Some.ensures) N d t c.loop-place.place after (Err e) (c.in_err-param.ensures.agrees d t x y)))

pub returns-clause-agrees : goal.returns-clause-agrees
returns-clause-agrees c = λ ds s h k.
    let before = declared_by c.args.env.now in
    let now = declared_by c.loop-place.env in
    at_end c.args.tree.now c.args.signature.now before.types c.args.ids.now c.args.types.now c.loop-place.place now.env c.loop-place.params _ (omega arith) (c.loop-place.invariant.1 ds s h k)
