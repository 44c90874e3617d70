use Rattle.std.proofs.Common.{◌≡◌, false, Err, ap, ◌∙◌}
use Rattle.std.proofs.lemmas.Result.{err_from_is_err_and}
use Rattle.c_types_table.specs.Tables.{type_at}
use Rattle.c_types_rules.specs.Statements.{returned}
use Rattle.c_types_rules.specs.TypeTests.{is_void}
use Rattle.c_types_expressions.proofs.Wholes.{failed}
use Rattle.c_types_statements.specs.Typed.{StatementStands}
use Rattle.c_types_statements.proofs.OfMade.{return_stands}
use Rattle.c_types_statements.proofs.OfMaybes.{a_return, one_is, return_breaks}
use Rattle.c_types_statements.proofs.plain.returned.Goals as goal

pub converted-requires-clause-id : goal.converted-requires-clause-id
converted-requires-clause-id c = one_is c.args.tree.now c.args.id c.in-Some.id c.in-Some.is c.requires.id

pub returns-in_err-value-in-Some-clause-agrees : goal.returns-in_err-value-in-Some-clause-agrees
returns-in_err-value-in-Some-clause-agrees c =
    let q = err_from_is_err_and c.from_residual.result c.from_residual.ensures.1 in
    let t = type_at c.args.env.now.table.types c.args.ty in
    let gives : is_void t ≡ false = cc in
    λ x h. failed _ _ (StatementStands c.converted.new.env.table) (returned c.args.env.now.env c.args.from t x) c.from_residual.result c.in_err-value-in-Some.field-0.0 (q.1 ∙ ap Err q.2)
    (return_breaks c.args.tree.now c.args.id c.in-Some.id c.in-Some.is c.args.env.now x h c.converted.new.env c.args.from t c.in_err-value-in-Some.field-0.0 gives c.in_err-value-in-Some.ensures.agrees)

pub returns-in_ok-value-in-Some-clause-agrees : goal.returns-in_ok-value-in-Some-clause-agrees
returns-in_ok-value-in-Some-clause-agrees c =
    let t = type_at c.args.env.now.table.types c.args.ty in
    let gives : is_void t ≡ false = cc in
    λ x h. a_return c.args.tree.now c.args.id c.in-Some.id c.in-Some.is c.args.env.now x h c.converted.new.env c.args.from t c.in_ok-value-in-Some.value _ gives c.in_ok-value-in-Some.ensures.agrees (return_stands c.converted.new.env.table c.args.from c.in_ok-value-in-Some.value)
