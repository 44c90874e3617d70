use Rattle.std.proofs.Common.{◌≡◌, ◌<◌, List, Err, Ok, length, sym, ap, ◌∙◌, subst}
use Rattle.std.proofs.lemmas.Result.{err_from_is_err_and}
use Rattle.c_types_table.specs.Tables.{type_at}
use Rattle.c_types_rules.specs.Checked.{heard}
use Rattle.c_types_rules.specs.Sources.{global_value}
use Rattle.c_types_nodes.specs.declared.ids.NodeId.{NodeId}
use Rattle.c_types_nodes.specs.Lists.{AreNodes}
use Rattle.c_types_nodes.proofs.Lists.{are_nodes_kept}
use Rattle.c_types_environment.specs.States.{State}
use Rattle.c_types_expressions.specs.Found.{Finds, IsPart}
use Rattle.c_types_expressions.proofs.Wholes.{failed}
use Rattle.c_types.proofs.GlobalSteps.{IsGiven}
use Rattle.c_types_expressions.proofs.Unevaluated.{aside_stays, part_stays}
use Rattle.c_types.proofs.Valued.{value_broken, value_heard}
use Rattle.c_types.proofs.globals.heard_value.Goals as goal

pub global_value-requires : goal.global_value-requires
global_value-requires c =
    let there : State → Type 0 = λ s. c.args.ty.0 < length s.table.types in
    record { rest = c.requires.rest; ty = subst there (sym c.set_aside-before.ensures.taken) c.requires.ty }

pub part_unevaluated-requires : goal.part_unevaluated-requires
part_unevaluated-requires c =
    let a = c.args.env.now in
    let b = c.global_value.new.env in
    let k = aside_stays a c.set_aside-before.new.self b c.set_aside-before.ensures.taken c.in_ok-value.ensures.kept in
    are_nodes_kept a.table b.table k.numbers c.set_aside-before.result.items c.set_aside-before.ensures.inside

pub returns-in_err-value-clause-agrees : goal.returns-in_err-value-clause-agrees
returns-in_err-value-clause-agrees c =
    let q = err_from_is_err_and c.from_residual.result c.from_residual.ensures.1 in
    let a = c.args.env.now in
    let b = c.global_value.new.env in
    λ tags p r file h. failed _ _ (IsPart b IsGiven) (heard (global_value tags p c.args.from (type_at a.table.types c.args.ty) r)) c.from_residual.result c.in_err-value.field-0.0 (q.1 ∙ ap Err q.2)
    (value_broken a c.set_aside-before.new.self b c.set_aside-before.ensures.taken tags p c.args.from c.args.ty r c.in_err-value.field-0.0 file (λ same. c.in_err-value.ensures.agrees tags p r same h))

pub returns-in_err-value-clause-kept : goal.returns-in_err-value-clause-kept
returns-in_err-value-clause-kept c = aside_stays c.args.env.now c.set_aside-before.new.self c.global_value.new.env c.set_aside-before.ensures.taken c.in_err-value.ensures.kept

pub returns-clause-agrees : goal.returns-clause-agrees
returns-clause-agrees c =
    let a = c.args.env.now in
    let b = c.global_value.new.env in
    let new = c.part_unevaluated.new.self in
    let v = c.in_ok-value.value in
    let back : new ≡ record b { unevaluated = a.unevaluated } = c.part_unevaluated.ensures.back ∙ ap (λ xs. record b { unevaluated = xs }) c.set_aside-before.ensures.before in
    λ tags p r file h. let P : List NodeId → Type 0 = λ xs. Finds a new (IsPart new IsGiven) (heard (global_value tags p c.args.from (type_at a.table.types c.args.ty) r)) (Ok (v, xs)) in
    subst P (sym c.part_unevaluated.ensures.part)
    (value_heard a c.set_aside-before.new.self b c.set_aside-before.ensures.taken new back tags p c.args.from c.args.ty r v (subst (AreNodes a.table) c.set_aside-before.ensures.before c.set_aside-before.ensures.inside) c.in_ok-value.ensures.kept file (λ same. c.in_ok-value.ensures.agrees tags p r same h))

pub returns-clause-kept : goal.returns-clause-kept
returns-clause-kept c =
    let a = c.args.env.now in
    let b = c.global_value.new.env in
    part_stays a c.set_aside-before.new.self b c.set_aside-before.ensures.taken c.part_unevaluated.new.self (c.part_unevaluated.ensures.back ∙ ap (λ xs. record b { unevaluated = xs }) c.set_aside-before.ensures.before) c.in_ok-value.ensures.kept

pub returns-clause-inside : goal.returns-clause-inside
returns-clause-inside c =
    let there : State → Type 0 = λ s. AreNodes s.table c.part_unevaluated.result in
    subst there (sym c.part_unevaluated.ensures.back) c.part_unevaluated.ensures.inside
