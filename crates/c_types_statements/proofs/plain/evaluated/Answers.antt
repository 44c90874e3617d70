use Rattle.std.proofs.Common.{Err, ap, ◌∙◌}
use Rattle.std.proofs.lemmas.Result.{err_from_is_err_and}
use Rattle.c_types_expressions.proofs.Wholes.{failed}
use Rattle.c_types_statements.specs.Pieces.{evaluated_in}
use Rattle.c_types_statements.specs.Typed.{StatementStands}
use Rattle.c_types_statements.proofs.OfValues.{evaluated_broken, evaluated_found}
use Rattle.c_types_statements.proofs.plain.evaluated.Goals as goal

pub returns-in_err-value-clause-agrees : goal.returns-in_err-value-clause-agrees
returns-in_err-value-clause-agrees c =
    let q = err_from_is_err_and c.from_residual.result c.from_residual.ensures.1 in
    λ x h. failed _ _ (StatementStands c.maybe_value.new.env.table) (evaluated_in c.args.env.now.env x) c.from_residual.result c.in_err-value.field-0.0 (q.1 ∙ ap Err q.2) (evaluated_broken c.args.env.now c.maybe_value.new.env x c.in_err-value.field-0.0 (c.in_err-value.ensures.agrees x h))

pub returns-clause-agrees : goal.returns-clause-agrees
returns-clause-agrees c =
    λ x h. evaluated_found c.args.env.now c.maybe_value.new.env x c.in_ok-value.value c.evaluated.result (c.in_ok-value.ensures.agrees x h) (c.evaluated.ensures c.maybe_value.new.env.table)
