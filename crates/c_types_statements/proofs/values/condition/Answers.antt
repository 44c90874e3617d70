use Rattle.std.proofs.Common.{Err, sym, ap, ◌∙◌}
use Rattle.std.proofs.lemmas.Result.{err_from_is_err_and}
use Rattle.c_types_rules.specs.Statements.{condition_in}
use Rattle.c_types_operators.specs.Answers.{IsAt}
use Rattle.c_types_expressions.proofs.Wholes.{failed}
use Rattle.c_types_statements.proofs.OfValues.{condition_broken, condition_found, no_condition, value_node}
use Rattle.c_types_statements.proofs.values.condition.Goals as goal

pub type_of-requires : goal.type_of-requires
type_of-requires c = record { inside = value_node c.args.env.now c.value.new.env c.requires.0 c.in_ok-value.value (c.in_ok-value.ensures.agrees c.requires.0 c.requires.1) }

pub returns-in_err-value-clause-agrees : goal.returns-in_err-value-clause-agrees
returns-in_err-value-clause-agrees c =
    let q = err_from_is_err_and c.from_residual.result c.from_residual.ensures.1 in
    λ x h. failed _ _ (IsAt c.value.new.env.table) (condition_in c.args.env.now.env x) c.from_residual.result c.in_err-value.field-0.0 (q.1 ∙ ap Err q.2) (condition_broken c.args.env.now c.value.new.env x c.in_err-value.field-0.0 (c.in_err-value.ensures.agrees x h))

pub returns-then-is_scalar-clause-agrees : goal.returns-then-is_scalar-clause-agrees
returns-then-is_scalar-clause-agrees c =
    λ x h. condition_found c.args.env.now c.value.new.env x c.in_ok-value.value c.type_of.result (c.in_ok-value.ensures.agrees x h) c.type_of.ensures (sym c.is_scalar.ensures ∙ c.if-is_scalar.true)

pub returns-else-is_scalar-clause-agrees : goal.returns-else-is_scalar-clause-agrees
returns-else-is_scalar-clause-agrees c =
    λ x h. no_condition c.args.env.now c.value.new.env x c.in_ok-value.value c.type_of.result (c.in_ok-value.ensures.agrees x h) c.type_of.ensures c.start.result (c.start.ensures x h) (sym c.is_scalar.ensures ∙ c.if-is_scalar.false)
