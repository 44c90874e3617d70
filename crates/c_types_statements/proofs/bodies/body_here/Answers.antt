use Rattle.std.proofs.Common.{Err, Ok, refl, ap, ◌∙◌}
use Rattle.std.proofs.lemmas.Result.{err_from_is_err_and}
use Rattle.c_types_expressions.proofs.Kept.{then_stay_around, type_inside}
use Rattle.c_types_expressions.proofs.Wholes.{failed}
use Rattle.c_types_statements.specs.Pieces.{body_here}
use Rattle.c_types_statements.specs.Typed.{BodyStands}
use Rattle.c_types_statements.proofs.Kept.{below_kept}
use Rattle.c_types_statements.proofs.OfBodies.{block_broken, body_found, parameters_broken, same_parameters}
use Rattle.c_types_statements.proofs.OfParameters.{IsEnv}
use Rattle.c_types_statements.proofs.Parts.{stmt_inside, stmt_starts}
use Rattle.c_types_statements.proofs.bodies.body_here.Goals as goal

pub stmt-requires : goal.stmt-requires
stmt-requires c = record { inside = stmt_inside c.args.tree.now c.args.id c.requires.id }

pub heard_block-requires : goal.heard_block-requires
heard_block-requires c = record {
  id = c.requires.id;
  place = type_inside _ _ _ c.in_ok-declare_parameters.ensures.kept.numbers c.requires.result;
  locals = below_kept _ _ _ c.in_ok-declare_parameters.ensures.kept.numbers c.requires.params;
}

pub returns-in_err-declare_parameters-clause-agrees : goal.returns-in_err-declare_parameters-clause-agrees
returns-in_err-declare_parameters-clause-agrees c =
    let q = err_from_is_err_and c.from_residual.result c.from_residual.ensures.1 in
    let a = c.args.env.now in
    let b = c.declare_parameters.new.env in
    λ t ds s is h k. failed _ _ (BodyStands b.table) (body_here a.env t ds s) c.from_residual.result c.in_err-declare_parameters.field-0.0 (q.1 ∙ ap Err q.2)
    (parameters_broken a b b c.args.signature t ds s is c.in_err-declare_parameters.field-0.0 (same_parameters a b ds (IsEnv b) (Err c.in_err-declare_parameters.field-0.0) _ _ c.deref.ensures.value (c.in_err-declare_parameters.ensures.agrees ds h)))

pub returns-in_err-statements-clause-agrees : goal.returns-in_err-statements-clause-agrees
returns-in_err-statements-clause-agrees c =
    let q = err_from_is_err_and c.from_residual-in_err-statements.result c.from_residual-in_err-statements.ensures.1 in
    let a = c.args.env.now in
    let b = c.declare_parameters.new.env in
    let d = c.heard_block.new.env in
    λ t ds s is h k. failed _ _ (BodyStands d.table) (body_here a.env t ds s) c.from_residual-in_err-statements.result c.in_err-statements.field-0.0 (q.1 ∙ ap Err q.2)
    (block_broken a b d c.args.signature t ds s is (same_parameters a b ds (IsEnv b) (Ok tt) _ _ c.deref.ensures.value (c.in_ok-declare_parameters.ensures.agrees ds h)) c.in_ok-declare_parameters.ensures.kept _ refl c.heard_block.new.locals.items c.in_err-statements.field-0.0 (c.in_err-statements.ensures.agrees s k))

pub returns-in_err-statements-clause-kept : goal.returns-in_err-statements-clause-kept
returns-in_err-statements-clause-kept c = then_stay_around _ _ _ c.in_ok-declare_parameters.ensures.kept c.in_err-statements.ensures.kept

pub returns-clause-agrees : goal.returns-clause-agrees
returns-clause-agrees c =
    let a = c.args.env.now in
    let b = c.declare_parameters.new.env in
    let d = c.heard_block.new.env in
    λ t ds s is h k. body_found a b d c.args.signature t ds s is (same_parameters a b ds (IsEnv b) (Ok tt) _ _ c.deref.ensures.value (c.in_ok-declare_parameters.ensures.agrees ds h)) c.in_ok-declare_parameters.ensures.kept _ refl c.heard_block.new.locals.items c.in_ok-statements.statements c.in_ok-statements.unevaluated _ (c.in_ok-statements.ensures.agrees s k) c.in_ok-statements.ensures.locals c.in_ok-statements.ensures.inside (stmt_starts c.args.tree.now c.args.id c.stmt.result.now s c.stmt.ensures.node k) c.from.ensures refl (c.from-2.ensures ∙ c.new.ensures.items) refl

pub returns-clause-kept : goal.returns-clause-kept
returns-clause-kept c = then_stay_around _ _ _ c.in_ok-declare_parameters.ensures.kept c.in_ok-statements.ensures.kept
