use Rattle.std.proofs.Common.{◌≡◌, ◌≤◌, List, length, Option, sym, ap, ◌∙◌, subst, arith}
use Rattle.std.specs.Prelude.{slice_get}
use Rattle.c_builtins.specs.Table.{params_of}
use Rattle.c_types_model.specs.Types.{CTypes}
use Rattle.c_types_table.specs.declared.ids.TypeId.{TypeId}
use Rattle.c_types_table.specs.declared.ty.Ty.{Ty}
use Rattle.c_types_table.specs.Tables.{IsMadeOf, all_at, made, type_at, types_of}
use Rattle.c_types_operators.specs.Calls.{IsParameter}
use Rattle.c_types_operators.proofs.Parameters.{parameter_at, read_at}
use Rattle.c_types_operators.proofs.calls.parameter.Goals as goal

pub returns-in-Function : goal.returns-in-Function
returns-in-Function c =
    let inside = c.types.result.now in
    let ids = c.in-Function.params in
    let n = c.args.number in
    let read : c.copied.result ≡ slice_get c.as_slice.result.now n = let lookup = c.get-in-Function.ensures.lookup in c.copied.ensures ∙ read_at c.get-in-Function.result c.as_slice.result.now n lookup.3 lookup.1 in
    let found : c.copied.result ≡ slice_get ids n = read ∙ ap (λ xs. slice_get xs n) c.as_slice.ensures in
    let lies : Ty → Type 0 = λ ty. IsMadeOf c.args.function.0 ty in
    let below = subst lies c.in-Function.is c.get.ensures.parts in
    let within : c.args.function.0 ≤ length inside = let same = ap length c.types.ensures in let h = c.requires in omega arith in
    let there : Option TypeId → Type 0 = λ o. IsParameter inside (all_at (types_of inside) ids) n o in
    let one = subst there (sym found) (parameter_at inside c.args.function.0 ids n within below.1) in
    let of : CTypes → Type 0 = λ ts. IsParameter inside ts n c.copied.result in
    let meaning : all_at (types_of inside) ids ≡ params_of (type_at inside c.args.function) = sym (ap (λ ty. params_of (made (types_of inside) ty)) c.in-Function.is) ∙ ap params_of c.get.ensures.meaning in
    let at : List Ty → Type 0 = λ types. IsParameter types (params_of (type_at types c.args.function)) n c.copied.result in
    subst at c.types.ensures (subst of meaning one)
