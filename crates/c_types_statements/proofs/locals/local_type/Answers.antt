use Rattle.std.proofs.Common.{Err, ap, ◌∙◌}
use Rattle.std.proofs.lemmas.Result.{err_from_is_err_and}
use Rattle.c_types_expressions.specs.Found.{IsType}
use Rattle.c_types_expressions.proofs.Wholes.{failed, type_found}
use Rattle.c_types_statements.specs.Pieces.{local_type}
use Rattle.c_types_statements.proofs.Declaring.{incomplete, offset_is, type_broken}
use Rattle.c_types_statements.proofs.Declaring as declaring
use Rattle.c_types_expressions.proofs.Constructs.{decl_inside}
use Rattle.c_types_statements.proofs.locals.local_type.Goals as goal

pub decl-requires : goal.decl-requires
decl-requires c = record { inside = decl_inside c.args.tree.now c.args.id c.requires.id }

pub complete-requires : goal.complete-requires
complete-requires c = type_found _ _ c.declared_type_after.new.env.table _ _ (c.in_ok-ty.ensures.agrees c.requires.id.0 c.requires.id.1)

pub returns-in_err-ty-clause-agrees : goal.returns-in_err-ty-clause-agrees
returns-in_err-ty-clause-agrees c =
    let q = err_from_is_err_and c.from_residual.result c.from_residual.ensures.1 in
    λ d h. failed _ _ (IsType c.declared_type_after.new.env.table) (local_type c.args.env.now.env d) c.from_residual.result c.in_err-ty.field-0.0 (q.1 ∙ ap Err q.2) (type_broken c.args.env.now c.declared_type_after.new.env d c.in_err-ty.field-0.0 (c.in_err-ty.ensures.agrees d h))

pub returns-in_err-complete-clause-agrees : goal.returns-in_err-complete-clause-agrees
returns-in_err-complete-clause-agrees c =
    let q = err_from_is_err_and c.from_residual-in_err-complete.result c.from_residual-in_err-complete.ensures.1 in
    λ d h. failed _ _ (IsType c.declared_type_after.new.env.table) (local_type c.args.env.now.env d) c.from_residual-in_err-complete.result c.in_err-complete.field-0.0 (q.1 ∙ ap Err q.2)
    (incomplete c.args.env.now c.declared_type_after.new.env c.in_ok-ty.ty c.in_ok-ty.ensures.kept c.decl.result.now.from d c.in_err-complete.field-0.0 (c.in_ok-ty.ensures.agrees d h) (offset_is c.args.tree.now c.args.id c.decl.result.now c.decl.ensures.node d h) c.in_err-complete.ensures.agrees)

pub returns-clause-agrees : goal.returns-clause-agrees
returns-clause-agrees c =
    λ d h. declaring.type_found c.args.env.now c.declared_type_after.new.env c.in_ok-ty.ty c.in_ok-ty.ensures.kept c.decl.result.now.from d (c.in_ok-ty.ensures.agrees d h) (offset_is c.args.tree.now c.args.id c.decl.result.now c.decl.ensures.node d h) c.in_ok-complete.ensures.agrees
