use Rattle.std.proofs.Common.{ap, ◌∙◌, refl}
use Rattle.c_types_table.specs.declared.ty.Ty.TheVariants as nodes
use Rattle.c_types_table.specs.Tables.{type_at, types_of}
use Rattle.c_types.specs.States.{program_of}
use Rattle.c_types.proofs.Naming.{IsProgramOf, made_there, typed_function, typed_global}
use Rattle.c_types.proofs.Stepping.{steps_as}
use Rattle.c_types.proofs.declarations.Declarations.typed.Goals as goal

pub returns-in-Function : goal.returns-in-Function
returns-in-Function c =
    let d = c.args.self.now in
    let types = d.env.table.types in
    let is = made_there types c.types.result.now c.args.ty c.get.result.now (nodes.Function c.in-Function.result c.in-Function.params) (c.types.ensures ∙ ap (λ t. t.types) c.table.ensures) c.get.ensures.meaning c.in-Function.is in
    λ y z. steps_as d c.function.new.self (IsProgramOf c.function.new.self) _ _ c.function.result
    (typed_function d.env.env.tags (program_of d) (types_of types) (type_at types c.args.ty) c.in-Function.result c.in-Function.params y is) (c.function.ensures y z)

pub returns-in_default : goal.returns-in_default
returns-in_default c =
    let d = c.args.self.now in
    let types = d.env.table.types in
    let is = made_there types c.types.result.now c.args.ty c.get.result.now c.get.result.now (c.types.ensures ∙ ap (λ t. t.types) c.table.ensures) c.get.ensures.meaning refl in
    λ y z. steps_as d c.global.new.self (IsProgramOf c.global.new.self) _ _ c.global.result
    (typed_global d.env.env.tags (program_of d) (types_of types) (type_at types c.args.ty) c.get.result.now y is c.in_default.not-Function) (c.global.ensures y z)
