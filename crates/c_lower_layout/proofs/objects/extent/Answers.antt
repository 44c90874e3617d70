use Rattle.std.proofs.Common.{◌≡◌, map, Some, None, sym, ap, ◌∙◌}
use Rattle.c_types_model.specs.Layouts.{extent_of}
use Rattle.c_types_table.specs.Tables.{type_at}
use Rattle.c_types_nodes.specs.Tables.{Table}
use Rattle.c_types_structs.specs.Members.{Definitions}
use Rattle.c_types_program.specs.Declarations.{structs_in}
use Rattle.c_lower_layout.specs.Sources.{source_in}
use Rattle.c_lower_layout.proofs.SizedTypes.{extent_found, some_found}
use Rattle.c_lower_layout.proofs.objects.extent.Goals as goal

pub unreachable-requires : goal.unreachable-requires
unfolding source_in
unreachable-requires c =
    let p = c.args.program.now in
    let types : c.types-types.result.now ≡ p.table.types = c.types-types.ensures ∙ ap (λ (t : Table). t.types) c.table.ensures.table in
    let structs : c.extents.result.now ≡ p.structs.extents = c.extents.ensures ∙ ap (λ (d : Definitions). d.extents) c.structs.ensures.structs in
    some_found (extent_of (map (λ s. s.extent) (structs_in p.table.types p.structs)) (type_at p.table.types c.args.ty)) c.requires.complete
    (extent_found p c.types-types.result.now c.extents.result.now c.args.ty None types structs (sym c.in-None.is ∙ c.extent.ensures))

pub returns : goal.returns
unfolding source_in
returns c =
    let p = c.args.program.now in
    let types : c.types-types.result.now ≡ p.table.types = c.types-types.ensures ∙ ap (λ (t : Table). t.types) c.table.ensures.table in
    let structs : c.extents.result.now ≡ p.structs.extents = c.extents.ensures ∙ ap (λ (d : Definitions). d.extents) c.structs.ensures.structs in
    extent_found p c.types-types.result.now c.extents.result.now c.args.ty (Some c.in-Some.extent) types structs (sym c.in-Some.is ∙ c.extent.ensures)
