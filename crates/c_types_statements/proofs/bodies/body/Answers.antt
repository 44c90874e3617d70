use Rattle.std.proofs.Common.{Err, sym, ap, ◌∙◌, subst}
use Rattle.std.proofs.lemmas.Result.{err_from_is_err_and}
use Rattle.c_types_table.specs.Tables.{type_at}
use Rattle.c_types_rules.specs.Sources.{body_of, nearest}
use Rattle.c_types_expressions.proofs.Kept.{then_stay, type_inside, type_stays}
use Rattle.c_types_expressions.proofs.Wholes.{failed}
use Rattle.c_types_statements.specs.Typed.{BodyStands}
use Rattle.c_types_statements.proofs.WithParameters.{block_stops, body_made, first_broken}
use Rattle.c_types_statements.proofs.bodies.body.Goals as goal

pub heard_parameters-requires : goal.heard_parameters-requires
heard_parameters-requires c = c.nearest_params.ensures.inside c.args.tree.now c.requires.parts

pub block_body-requires : goal.block_body-requires
block_body-requires c = record { ty = type_inside _ _ _ c.in_ok-in_params.ensures.kept.numbers c.requires.ty; parts = c.requires.parts; id = c.requires.id }

pub returns-in_err-in_params-clause-agrees : goal.returns-in_err-in_params-clause-agrees
returns-in_err-in_params-clause-agrees c =
    let q = err_from_is_err_and c.from_residual.result c.from_residual.ensures.1 in
    let a = c.args.env.now in
    let b = c.heard_parameters.new.env in
    λ ps s h k. failed _ _ (BodyStands b.table) (body_of a.env (type_at a.table.types c.args.ty) ps s) c.from_residual.result c.in_err-in_params.field-0.0 (q.1 ∙ ap Err q.2)
    (first_broken a b b c.args.ty ps s c.in_err-in_params.field-0.0 (c.in_err-in_params.ensures.agrees (nearest ps) (c.nearest_params.ensures.stand c.args.tree.now ps h)))

pub returns-in_err-body-clause-agrees : goal.returns-in_err-body-clause-agrees
returns-in_err-body-clause-agrees c =
    let q = err_from_is_err_and c.from_residual-in_err-body.result c.from_residual-in_err-body.ensures.1 in
    let a = c.args.env.now in
    let b = c.heard_parameters.new.env in
    let d = c.block_body.new.env in
    λ ps s h k. failed _ _ (BodyStands d.table) (body_of a.env (type_at a.table.types c.args.ty) ps s) c.from_residual-in_err-body.result c.in_err-body.field-0.0 (q.1 ∙ ap Err q.2)
    (block_stops a b d c.args.ty ps s c.in_ok-in_params.in_params (c.in_ok-in_params.ensures.agrees (nearest ps) (c.nearest_params.ensures.stand c.args.tree.now ps h)) c.in_ok-in_params.ensures.kept (type_stays a.table b.table c.args.ty c.in_ok-in_params.ensures.kept.numbers c.requires.ty)
    c.in_err-body.field-0.0 (c.in_err-body.ensures.agrees ps s h k))

pub returns-in_err-body-clause-kept : goal.returns-in_err-body-clause-kept
returns-in_err-body-clause-kept c = then_stay _ _ _ c.in_ok-in_params.ensures.kept c.in_err-body.ensures.kept

pub returns-clause-agrees : goal.returns-clause-agrees
returns-clause-agrees c =
    let a = c.args.env.now in
    let b = c.heard_parameters.new.env in
    let d = c.block_body.new.env in
    λ ps s h k. body_made a b d c.args.ty ps s c.in_ok-in_params.in_params (c.in_ok-in_params.ensures.agrees (nearest ps) (c.nearest_params.ensures.stand c.args.tree.now ps h)) c.in_ok-in_params.ensures.kept (type_stays a.table b.table c.args.ty c.in_ok-in_params.ensures.kept.numbers c.requires.ty)
    c.in_ok-body.body c.with_params.result c.in_ok-in_params.ensures.inside c.in_ok-body.ensures.kept.numbers c.with_params.ensures (c.in_ok-body.ensures.agrees ps s h k)

pub returns-clause-kept : goal.returns-clause-kept
returns-clause-kept c = then_stay _ _ _ c.in_ok-in_params.ensures.kept c.in_ok-body.ensures.kept
