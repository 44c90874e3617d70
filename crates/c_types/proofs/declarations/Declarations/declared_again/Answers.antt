use Rattle.std.proofs.Common.{Some, sym, subst}
use Rattle.c_types_table.specs.Tables.{type_at, types_of}
use Rattle.c_types_rules.specs.Sources.{declared_again}
use Rattle.c_types_environment.specs.Reading.{meaning_by}
use Rattle.c_types.specs.States.{IsFunctionPlace, Steps, program_of}
use Rattle.c_types.proofs.FunctionSteps.{another_sort, function_again}
use Rattle.c_types.proofs.declarations.Declarations.declared_again.Goals as goal

pub returns-in-Function : goal.returns-in-Function
returns-in-Function c =
    let d = c.args.self.now in
    let types = d.env.table.types in
    let t = type_at types c.args.ty in
    λ name. subst (λ m. Steps d d (IsFunctionPlace d) (declared_again (program_of d) c.args.from t (Some (meaning_by (types_of types) m)) name) c.same_function.result) (sym c.in-Function.is)
    (function_again d c.args.from t name c.in-Function.number (type_at types c.in-Function.before) c.same_function.result c.requires.sound c.same_function.ensures)

pub returns-in_default : goal.returns-in_default
returns-in_default c =
    let d = c.args.self.now in
    let types = d.env.table.types in
    λ name. another_sort d c.args.from (type_at types c.args.ty) name (types_of types) c.args.meaning c.in_default.not-Function
