use Rattle.std.proofs.Common.{Err, ap, ◌∙◌}
use Rattle.std.proofs.lemmas.Result.{err_from_is_err_and}
use Rattle.c_types_rules.specs.Statements.{maybe_condition}
use Rattle.c_types_expressions.proofs.Wholes.{failed}
use Rattle.c_types_statements.specs.Typed.{MaybeStands}
use Rattle.c_types_statements.proofs.OfMaybes.{a_test, no_test, one_is, test_breaks}
use Rattle.c_types_statements.proofs.values.maybe_condition.Goals as goal

pub condition-requires : goal.condition-requires
condition-requires c = one_is c.args.tree.now c.args.id c.in-Some.id c.in-Some.is c.requires

pub returns-in-None-clause-agrees : goal.returns-in-None-clause-agrees
returns-in-None-clause-agrees c = λ x h. no_test c.args.tree.now c.args.id c.in-None.is c.args.env.now x h

pub returns-in_err-condition-in-Some-clause-agrees : goal.returns-in_err-condition-in-Some-clause-agrees
returns-in_err-condition-in-Some-clause-agrees c =
    let q = err_from_is_err_and c.from_residual.result c.from_residual.ensures.1 in
    λ x h. failed _ _ (MaybeStands c.condition.new.env.table) (maybe_condition c.args.env.now.env x) c.from_residual.result c.in_err-condition-in-Some.field-0.0 (q.1 ∙ ap Err q.2) (test_breaks c.args.tree.now c.args.id c.in-Some.id c.in-Some.is c.args.env.now x h c.condition.new.env c.in_err-condition-in-Some.field-0.0 c.in_err-condition-in-Some.ensures.agrees)

pub returns-in_ok-condition-in-Some-clause-agrees : goal.returns-in_ok-condition-in-Some-clause-agrees
returns-in_ok-condition-in-Some-clause-agrees c =
    λ x h. a_test c.args.tree.now c.args.id c.in-Some.id c.in-Some.is c.args.env.now x h c.condition.new.env c.in_ok-condition-in-Some.condition c.in_ok-condition-in-Some.ensures.agrees
