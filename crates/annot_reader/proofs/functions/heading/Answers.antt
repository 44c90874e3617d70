use Rattle.std.proofs.Common.{◌≡◌, List, ap, ◌∙◌, subst}
use Rattle.c_types_table.specs.declared.ty.Ty.{Ty}
use Rattle.c_types_table.specs.Tables.{made, type_at, types_of}
use Rattle.c_types_nodes.specs.Tables.{Table}
use Rattle.annot_reader.specs.declared.source.Heading.{Heading}
use Rattle.annot_reader.proofs.Headings.{heading_number}
use Rattle.annot_reader.proofs.functions.heading.Goals as goal

pub returns-clause-number : goal.returns-clause-number
returns-clause-number c =
    let ty = c.args.function.now.ty in
    let t = c.get.result.now in
    let made_here : Heading = record { kind = c.kind_of-kind.result; result = c.in-Function.result; params = c.in_ok-copied-in-Function.field-0 } in
    let types = c.types.ensures ∙ ap (λ (u : Table). u.types) c.table.ensures in
    let meaning = subst (λ (tys : List Ty). made (types_of tys) t ≡ type_at tys ty) types c.get.ensures.meaning in
    heading_number c.args.env.now made_here t c.in-Function.params (type_at c.args.env.now.table.types ty) ty.0 c.requires.inside c.in-Function.is (c.in_ok-copied-in-Function.ensures ∙ c.as_slice.ensures) c.get.ensures.parts meaning c.requires.ty
