use Rattle.std.proofs.Common.{◌≡◌, Err, ap, ◌∙◌, subst}
use Rattle.std.proofs.lemmas.Result.{err_from_is_err_and}
use Rattle.c_types_table.specs.Tables.{type_at}
use Rattle.c_types_expressions.proofs.Kept.{type_inside, type_stays}
use Rattle.c_types.specs.States.{Follows, program_of}
use Rattle.c_types.specs.Pieces.{defined_of}
use Rattle.c_types.proofs.FunctionSteps.{body_after, declaration_stops, members_after, nothing_more, value_after}
use Rattle.c_types.proofs.Naming.{IsProgramOf}
use Rattle.c_types.proofs.Parts.{body_of_rest, decl_inside, rest_of}
use Rattle.c_types.proofs.Stepping.{failed_so}
use Rattle.c_types.proofs.declarations.Declarations.function.Goals as goal

pub decl-decl-requires : goal.decl-decl-requires
decl-decl-requires c = record { inside = decl_inside c.args.tree.now c.args.id c.requires.id }

pub returns-in_err-place : goal.returns-in_err-place
returns-in_err-place c =
    let q = err_from_is_err_and c.from_residual.result c.from_residual.ensures.1 in
    let d = c.args.self.now in
    let m = c.function_declared.new.self in
    λ y z. failed_so d m (IsProgramOf m) _ c.from_residual.result c.in_err-place.field-0.0 (q.1 ∙ ap Err q.2)
    (declaration_stops c.args.tree.now c.args.id c.decl-decl.result.now c.decl-decl.ensures.node d m (type_at d.env.table.types c.args.ty) c.name_of.result.now c.name_of.ensures c.in_err-place.field-0.0 c.in_err-place.ensures y z)

pub function_defined-requires-clause-block : goal.function_defined-requires-clause-block
function_defined-requires-clause-block c =
    body_of_rest c.args.tree.now c.decl-decl.result.now.rest c.in-Body.block (rest_of c.args.tree.now c.args.id c.decl-decl.result.now c.requires.id c.decl-decl.ensures.node) c.in-Body.is

pub function_defined-requires-clause-ty : goal.function_defined-requires-clause-ty
function_defined-requires-clause-ty c = type_inside _ _ _ c.in_ok-place.ensures.kept.numbers c.requires.ty

pub function_defined-requires-clause-sound : goal.function_defined-requires-clause-sound
function_defined-requires-clause-sound c = c.in_ok-place.ensures.kept.sound

pub returns-in-None : goal.returns-in-None
returns-in-None c =
    let d = c.args.self.now in
    nothing_more c.args.tree.now c.args.id c.decl-decl.result.now c.decl-decl.ensures.node d c.function_declared.new.self (type_at d.env.table.types c.args.ty) c.name_of.result.now c.name_of.ensures c.in_ok-place.place c.in_ok-place.ensures c.in-None.is

pub returns-in-Value : goal.returns-in-Value
returns-in-Value c =
    let d = c.args.self.now in
    value_after c.args.tree.now c.args.id c.decl-decl.result.now c.decl-decl.ensures.node d c.function_declared.new.self (type_at d.env.table.types c.args.ty) c.name_of.result.now c.name_of.ensures c.in_ok-place.place c.in_ok-place.ensures c.in-Value.field-0 c.in-Value.is

pub returns-in-Members : goal.returns-in-Members
returns-in-Members c =
    let d = c.args.self.now in
    members_after c.args.tree.now c.args.id c.decl-decl.result.now c.decl-decl.ensures.node d c.function_declared.new.self (type_at d.env.table.types c.args.ty) c.name_of.result.now c.name_of.ensures c.in_ok-place.place c.in_ok-place.ensures c.in-Members.field-0 c.in-Members.is

pub returns-in-Body : goal.returns-in-Body
returns-in-Body c =
    let d = c.args.self.now in
    let m = c.function_declared.new.self in
    let new = c.function_defined.new.self in
    let same : type_at m.env.table.types c.args.ty ≡ type_at d.env.table.types c.args.ty = type_stays d.env.table m.env.table c.args.ty c.in_ok-place.ensures.kept.numbers c.requires.ty in
    body_after c.args.tree.now c.args.id c.decl-decl.result.now c.decl-decl.ensures.node d m (type_at d.env.table.types c.args.ty) c.name_of.result.now c.name_of.ensures c.in_ok-place.place c.in_ok-place.ensures c.in-Body.block c.in-Body.is
    new c.function_defined.result
    (λ y b z s. subst (λ t. Follows m new (defined_of m.env.env.tags (program_of m) c.in_ok-place.place t y b) c.function_defined.result) same (c.function_defined.ensures y b z s))
