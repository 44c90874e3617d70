use Rattle.std.proofs.Common.{Err, refl, sym, ap, ◌∙◌}
use Rattle.std.proofs.lemmas.Result.{err_from_is_err_and}
use Rattle.c_syntax.specs.Syntax.{Initial, Plain}
use Rattle.c_types_table.specs.Tables.{type_at}
use Rattle.c_types_rules.specs.Statements.{first_value}
use Rattle.c_types_rules.specs.TypedTree as typed
use Rattle.c_types_expressions.proofs.Wholes.{failed}
use Rattle.c_types_statements.proofs.Added.{one_stands}
use Rattle.c_types_statements.proofs.Declaring.{IsOne, initial_broken, initial_found, not_scalar}
use Rattle.c_types_statements.proofs.OfMade.{initialise_stands}
use Rattle.c_types_statements.proofs.locals.initial.Goals as goal

pub returns-then-not-is_scalar-clause-agrees : goal.returns-then-not-is_scalar-clause-agrees
returns-then-not-is_scalar-clause-agrees c =
    let t = type_at c.args.env.now.table.types c.args.ty in
    λ x h. not_scalar c.args.env.now c.args.from c.args.place t x (sym c.is_scalar.ensures ∙ c.if-not-is_scalar.true)

pub returns-in_err-value-clause-agrees : goal.returns-in_err-value-clause-agrees
returns-in_err-value-clause-agrees c =
    let q = err_from_is_err_and c.from_residual.result c.from_residual.ensures.1 in
    let t = type_at c.args.env.now.table.types c.args.ty in
    λ x h. failed _ _ (IsOne c.converted.new.env) (first_value c.args.env.now.env c.args.from c.args.place t (Initial (Plain x))) c.from_residual.result c.in_err-value.field-0.0 (q.1 ∙ ap Err q.2)
    (initial_broken c.args.env.now c.converted.new.env c.args.from c.args.place t x c.in_err-value.field-0.0 (sym c.is_scalar.ensures ∙ c.if-not-is_scalar.false) (c.in_err-value.ensures.agrees x h))

pub returns-clause-agrees : goal.returns-clause-agrees
returns-clause-agrees c =
    let t = type_at c.args.env.now.table.types c.args.ty in
    let names = c.in_ok-value.ensures.kept.numbers.types.names c.args.ty t (record { inside = c.requires.ty; is = refl }) in
    λ x h. initial_found c.args.env.now c.converted.new.env c.args.from c.args.place t x c.in_ok-value.value _ (sym c.is_scalar.ensures ∙ c.if-not-is_scalar.false) (c.in_ok-value.ensures.agrees x h)
    (λ w at. one_stands c.converted.new.env.table (typed.Initialise c.args.place t w) _ (initialise_stands c.converted.new.env.table c.args.place c.args.ty c.in_ok-value.value t w names at))
