use Rattle.std.proofs.Common.{◌≡◌, refl, sym, ap, ◌∙◌, subst}
use Rattle.c_types_table.specs.Tables.{IsMadeOf, made, types_of, type_at}
use Rattle.c_types_statements.proofs.Signatures.{function_signature, no_function, plain_signature}
use Rattle.c_types_statements.proofs.signature.signature_of.Goals as goal

pub returns-in_ok-params-in-Function : goal.returns-in_ok-params-in-Function
returns-in_ok-params-in-Function c =
    let types = c.args.env.now.table.types in
    let same : c.types.result.now ≡ types = c.types.ensures ∙ ap (λ z. z.types) c.table.ensures in
    let made_of = subst (IsMadeOf c.args.ty.0) c.in-Function.is c.get.ensures.parts in
    let is = ap (made (types_of types)) (sym c.in-Function.is) ∙ (ap (λ ts. made (types_of ts) c.get.result.now) (sym same) ∙ (c.get.ensures.meaning ∙ ap (λ ts. type_at ts c.args.ty) same)) in
    function_signature types c.args.ty c.requires _ c.in-Function.result c.in-Function.params is made_of refl (c.in_ok-params-in-Function.ensures.items ∙ c.as_slice.ensures)

pub returns-in_default : goal.returns-in_default
returns-in_default c =
    let types = c.args.env.now.table.types in
    let same : c.types.result.now ≡ types = c.types.ensures ∙ ap (λ z. z.types) c.table.ensures in
    let plain = no_function (types_of types) c.get.result.now (type_at types c.args.ty) c.in_default.not-Function (ap (λ ts. made (types_of ts) c.get.result.now) (sym same) ∙ (c.get.ensures.meaning ∙ ap (λ ts. type_at ts c.args.ty) same)) in
    plain_signature types c.args.ty c.requires _ plain.0 plain.1 refl c.new.ensures.items
