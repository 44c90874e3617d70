use Rattle.std.proofs.Common.{Err, ap, ◌∙◌}
use Rattle.std.proofs.lemmas.Result.{err_from_is_err_and}
use Rattle.c_types_rules.specs.Statements.{maybe_in}
use Rattle.c_types_expressions.proofs.Wholes.{failed}
use Rattle.c_types_statements.specs.Typed.{MaybeStands}
use Rattle.c_types_statements.proofs.OfMaybes.{a_value, no_value, one_is, value_breaks}
use Rattle.c_types_statements.proofs.values.maybe_value.Goals as goal

pub value-requires : goal.value-requires
value-requires c = one_is c.args.tree.now c.args.id c.in-Some.id c.in-Some.is c.requires

pub returns-in-None-clause-agrees : goal.returns-in-None-clause-agrees
returns-in-None-clause-agrees c = λ x h. no_value c.args.tree.now c.args.id c.in-None.is c.args.env.now x h

pub returns-in_err-value-in-Some-clause-agrees : goal.returns-in_err-value-in-Some-clause-agrees
returns-in_err-value-in-Some-clause-agrees c =
    let q = err_from_is_err_and c.from_residual.result c.from_residual.ensures.1 in
    λ x h. failed _ _ (MaybeStands c.value.new.env.table) (maybe_in c.args.env.now.env x) c.from_residual.result c.in_err-value-in-Some.field-0.0 (q.1 ∙ ap Err q.2) (value_breaks c.args.tree.now c.args.id c.in-Some.id c.in-Some.is c.args.env.now x h c.value.new.env c.in_err-value-in-Some.field-0.0 c.in_err-value-in-Some.ensures.agrees)

pub returns-in_ok-value-in-Some-clause-agrees : goal.returns-in_ok-value-in-Some-clause-agrees
returns-in_ok-value-in-Some-clause-agrees c =
    λ x h. a_value c.args.tree.now c.args.id c.in-Some.id c.in-Some.is c.args.env.now x h c.value.new.env c.in_ok-value-in-Some.value c.in_ok-value-in-Some.ensures.agrees
