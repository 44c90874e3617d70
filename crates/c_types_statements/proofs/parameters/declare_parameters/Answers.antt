use Rattle.std.proofs.Common.{◌≤◌, length, Err, sym, ap, ◌∙◌, subst, arith}
use Rattle.std.proofs.lemmas.List.Elements.{All-get_or}
use Rattle.std.proofs.lemmas.Result.{err_from_is_err_and}
use Rattle.c_syntax.specs.Stands.{StandsDecl}
use Rattle.c_types_table.specs.Tables.{IsBelow, all_at, types_of}
use Rattle.c_types_rules.specs.Sources.{parameters}
use Rattle.c_types_expressions.specs.Walks.{IsDecl}
use Rattle.c_types_expressions.proofs.Kept.{stay, stay_around, then_stay_around, type_inside}
use Rattle.c_types_expressions.proofs.Wholes.{failed}
use Rattle.c_types_statements.proofs.Lists.{decl_among}
use Rattle.c_types_statements.proofs.OfParameters.{IsEnv, no_more_parameters, no_more_types, no_parameter_read, none_there, parameter_broken, parameter_read}
use Rattle.c_types_statements.proofs.parameters.declare_parameters.Goals as goal

pub loop-place-init : goal.loop-place-init
loop-place-init c = record {
  kept = stay_around _ _ (stay c.args.env.now);
  read = λ ds h. no_parameter_read c.args.tree.now c.args.ids.now c.args.types.now ds c.args.env.now h;
}

pub parameter-requires : goal.parameter-requires
parameter-requires c =
    let lookup = c.in-Some.ensures.lookup in
    record {
      id = subst (IsDecl c.args.tree.now) (sym lookup.1) (decl_among c.args.tree.now c.args.ids.now c.loop-place.place c.in-Some.id.now lookup.3.0 c.requires.ids);
      ty = type_inside _ _ _ c.loop-place.invariant.kept.numbers (All-get_or (IsBelow (length c.args.env.now.table.types)) c.args.types.now c.loop-place.place (record { 0 = 0 }) c.loop-place-test.true c.requires.types);
    }

pub loop-place-preserved : goal.loop-place-preserved
loop-place-preserved c =
    let lookup = c.in-Some.ensures.lookup in
    let below = All-get_or (IsBelow (length c.args.env.now.table.types)) c.args.types.now c.loop-place.place (record { 0 = 0 }) c.loop-place-test.true c.requires.types in
    record {
      kept = then_stay_around _ _ _ c.loop-place.invariant.kept c.in_ok-parameter.ensures.kept;
      read = λ ds h. parameter_read c.args.tree.now c.args.ids.now c.args.types.now ds c.args.env.now c.loop-place.place c.loop-place.env (c.loop-place.invariant.read ds h) c.in-Some.id.now (record { 0 = 0 }) c.parameter.new.env
          lookup.3.0 c.loop-place-test.true below c.loop-place.invariant.kept.numbers (λ x s. c.in_ok-parameter.ensures.agrees x (subst (λ i. StandsDecl c.args.tree.now i x) (sym lookup.1) s));
    }

pub returns-in_err-parameter-clause-agrees : goal.returns-in_err-parameter-clause-agrees
returns-in_err-parameter-clause-agrees c =
    let q = err_from_is_err_and c.from_residual.result c.from_residual.ensures.1 in
    let lookup = c.in-Some.ensures.lookup in
    let a = c.args.env.now in
    let b = c.parameter.new.env in
    let below = All-get_or (IsBelow (length c.args.env.now.table.types)) c.args.types.now c.loop-place.place (record { 0 = 0 }) c.loop-place-test.true c.requires.types in
    λ ds h. failed _ _ (IsEnv b) (parameters ds a.env 0 (all_at (types_of a.table.types) c.args.types.now)) c.from_residual.result c.in_err-parameter.field-0.0 (q.1 ∙ ap Err q.2)
    (parameter_broken c.args.tree.now c.args.ids.now c.args.types.now ds a c.loop-place.place c.loop-place.env (c.loop-place.invariant.read ds h) c.in-Some.id.now (record { 0 = 0 }) b b c.in_err-parameter.field-0.0
    lookup.3.0 c.loop-place-test.true below c.loop-place.invariant.kept.numbers (λ x s. c.in_err-parameter.ensures.agrees x (subst (λ i. StandsDecl c.args.tree.now i x) (sym lookup.1) s)))

pub returns-in_default-clause-agrees : goal.returns-in_default-clause-agrees
returns-in_default-clause-agrees c =
    let none : length c.args.ids.now ≤ c.loop-place.place = none_there c.get.result _ _ c.in_default.not-Some c.get.ensures.lookup.3 in
    λ ds h. no_more_parameters c.args.tree.now c.args.ids.now c.args.types.now ds c.args.env.now c.loop-place.place c.loop-place.env (c.loop-place.invariant.read ds h) none

pub returns-clause-agrees : goal.returns-clause-agrees
returns-clause-agrees c =
    λ ds h. no_more_types c.args.tree.now c.args.ids.now c.args.types.now ds c.args.env.now c.loop-place.place c.loop-place.env (c.loop-place.invariant.read ds h) (omega arith)
