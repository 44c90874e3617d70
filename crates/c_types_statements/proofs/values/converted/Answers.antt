use Rattle.std.proofs.Common.{Err, ap, ◌∙◌}
use Rattle.std.proofs.lemmas.Result.{err_from_is_err_and}
use Rattle.c_types_table.specs.Tables.{type_at}
use Rattle.c_types_operators.specs.Answers.{IsAt}
use Rattle.c_types_expressions.proofs.Kept.{all_stay, then_stay, type_inside}
use Rattle.c_types_expressions.proofs.Wholes.{failed}
use Rattle.c_types_statements.specs.Pieces.{converted_in}
use Rattle.c_types_statements.proofs.OfValues.{converted_broken, converted_found, value_there}
use Rattle.c_types_statements.proofs.values.converted.Goals as goal

pub assigned-requires : goal.assigned-requires
assigned-requires c = record {
  ty = type_inside _ _ _ c.in_ok-value.ensures.kept.numbers c.requires.ty;
  value = value_there c.args.env.now c.value.new.env c.requires.id.0 c.in_ok-value.value (c.in_ok-value.ensures.agrees c.requires.id.0 c.requires.id.1);
}

pub returns-in_err-value-clause-agrees : goal.returns-in_err-value-clause-agrees
returns-in_err-value-clause-agrees c =
    let q = err_from_is_err_and c.from_residual.result c.from_residual.ensures.1 in
    let t = type_at c.args.env.now.table.types c.args.ty in
    λ x h. failed _ _ (IsAt c.value.new.env.table) (converted_in c.args.env.now.env t x) c.from_residual.result c.in_err-value.field-0.0 (q.1 ∙ ap Err q.2) (converted_broken c.args.env.now c.value.new.env t x c.in_err-value.field-0.0 (c.in_err-value.ensures.agrees x h))

pub returns-clause-agrees : goal.returns-clause-agrees
returns-clause-agrees c =
    λ x h. converted_found c.args.env.now c.value.new.env c.assigned.new.self c.args.ty x c.in_ok-value.value c.start.result c.assigned.result c.requires.ty (c.in_ok-value.ensures.agrees x h) c.in_ok-value.ensures.kept (c.start.ensures x h) c.assigned.ensures.agrees c.assigned.ensures.kept

pub returns-clause-kept : goal.returns-clause-kept
returns-clause-kept c = then_stay _ _ _ c.in_ok-value.ensures.kept (all_stay _ _ c.assigned.ensures.kept)
