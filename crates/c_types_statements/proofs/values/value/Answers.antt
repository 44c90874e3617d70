use Rattle.std.proofs.Common.{Err, ap, ◌∙◌}
use Rattle.std.proofs.lemmas.Result.{err_from_is_err_and}
use Rattle.c_types_rules.specs.Statements.{value_in}
use Rattle.c_types_operators.specs.Answers.{IsAt}
use Rattle.c_types_expressions.proofs.Kept.{all_stay, then_stay}
use Rattle.c_types_expressions.proofs.Wholes.{failed}
use Rattle.c_types_statements.proofs.OfValues.{node_there, value_broken, value_found}
use Rattle.c_types_statements.proofs.values.value.Goals as goal

pub value_of-requires : goal.value_of-requires
value_of-requires c = record { inside = node_there c.args.env.now c.expression.new.env c.requires.0 c.in_ok-node.node (c.in_ok-node.ensures.agrees c.requires.0 c.requires.1) }

pub returns-in_err-node-clause-agrees : goal.returns-in_err-node-clause-agrees
returns-in_err-node-clause-agrees c =
    let q = err_from_is_err_and c.from_residual.result c.from_residual.ensures.1 in
    λ x h. failed _ _ (IsAt c.expression.new.env.table) (value_in c.args.env.now.env x) c.from_residual.result c.in_err-node.field-0.0 (q.1 ∙ ap Err q.2) (value_broken c.args.env.now c.expression.new.env x c.in_err-node.field-0.0 (c.in_err-node.ensures.agrees x h))

pub returns-clause-agrees : goal.returns-clause-agrees
returns-clause-agrees c =
    λ x h. value_found c.args.env.now c.expression.new.env x c.in_ok-node.node (c.in_ok-node.ensures.agrees x h) c.value_of.new.self c.in_ok-value_of.field-0 c.in_ok-value_of.ensures.kept c.in_ok-value_of.ensures.value

pub returns-clause-kept : goal.returns-clause-kept
returns-clause-kept c = then_stay _ _ _ c.in_ok-node.ensures.kept (all_stay _ _ c.in_ok-value_of.ensures.kept)

pub returns-in_err-value_of-clause-kept : goal.returns-in_err-value_of-clause-kept
returns-in_err-value_of-clause-kept c = then_stay _ _ _ c.in_ok-node.ensures.kept (all_stay _ _ c.in_err-value_of.ensures.kept)
