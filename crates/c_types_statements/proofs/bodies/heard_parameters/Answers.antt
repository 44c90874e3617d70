use Rattle.std.proofs.Common.{◌≡◌, List, Err, Ok, sym, ap, ◌∙◌, subst}
use Rattle.std.proofs.lemmas.Result.{err_from_is_err_and}
use Rattle.c_types_rules.specs.Checked.{heard}
use Rattle.c_types_rules.specs.Environment.{inner}
use Rattle.c_types_rules.specs.Expressions.{parameter_types}
use Rattle.c_types_nodes.specs.Lists.{AreNodes}
use Rattle.c_types_nodes.proofs.Lists.{are_nodes_kept}
use Rattle.c_types_environment.specs.States.{State}
use Rattle.c_types_expressions.proofs.Unevaluated.{aside_stays, part_stays}
use Rattle.c_types_expressions.proofs.Wholes.{failed}
use Rattle.c_types_statements.proofs.WithParameters.{AreHeard, params_broken, params_heard}
use Rattle.c_types_statements.proofs.bodies.heard_parameters.Goals as goal

pub part_unevaluated-requires : goal.part_unevaluated-requires
part_unevaluated-requires c =
    let a = c.args.env.now in
    let b = c.parameter_types.new.env in
    let k = aside_stays a c.set_aside-before.new.self b c.set_aside-before.ensures.taken c.in_ok-parameter_types.ensures.kept in
    are_nodes_kept a.table b.table k.numbers c.set_aside-before.result.items c.set_aside-before.ensures.inside

pub returns-in_err-parameter_types-clause-agrees : goal.returns-in_err-parameter_types-clause-agrees
returns-in_err-parameter_types-clause-agrees c =
    let q = err_from_is_err_and c.from_residual.result c.from_residual.ensures.1 in
    let a = c.args.env.now in
    let b = c.parameter_types.new.env in
    λ ds h. failed _ _ (AreHeard b.table) (heard (parameter_types ds (inner a.env) 0)) c.from_residual.result c.in_err-parameter_types.field-0.0 (q.1 ∙ ap Err q.2)
    (params_broken a c.set_aside-before.new.self b c.set_aside-before.ensures.taken ds c.in_err-parameter_types.field-0.0 (c.in_err-parameter_types.ensures.agrees ds h))

pub returns-in_err-parameter_types-clause-kept : goal.returns-in_err-parameter_types-clause-kept
returns-in_err-parameter_types-clause-kept c = aside_stays c.args.env.now c.set_aside-before.new.self c.parameter_types.new.env c.set_aside-before.ensures.taken c.in_err-parameter_types.ensures.kept

pub returns-clause-agrees : goal.returns-clause-agrees
returns-clause-agrees c =
    let a = c.args.env.now in
    let b = c.parameter_types.new.env in
    let new = c.part_unevaluated.new.self in
    let back : new ≡ record b { unevaluated = a.unevaluated } = c.part_unevaluated.ensures.back ∙ ap (λ xs. record b { unevaluated = xs }) c.set_aside-before.ensures.before in
    λ ds h. params_heard a c.set_aside-before.new.self b c.set_aside-before.ensures.taken ds new c.in_ok-parameter_types.field-0 c.part_unevaluated.result back c.part_unevaluated.ensures.part (subst (AreNodes a.table) c.set_aside-before.ensures.before c.set_aside-before.ensures.inside)
    c.in_ok-parameter_types.ensures.kept (c.in_ok-parameter_types.ensures.agrees ds h)

pub returns-clause-kept : goal.returns-clause-kept
returns-clause-kept c =
    let a = c.args.env.now in
    let b = c.parameter_types.new.env in
    part_stays a c.set_aside-before.new.self b c.set_aside-before.ensures.taken c.part_unevaluated.new.self (c.part_unevaluated.ensures.back ∙ ap (λ xs. record b { unevaluated = xs }) c.set_aside-before.ensures.before) c.in_ok-parameter_types.ensures.kept

pub returns-clause-inside : goal.returns-clause-inside
returns-clause-inside c =
    let there : State → Type 0 = λ s. AreNodes s.table c.part_unevaluated.result in
    subst there (sym c.part_unevaluated.ensures.back) c.part_unevaluated.ensures.inside
