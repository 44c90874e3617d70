use Rattle.std.proofs.Common.{◌≡◌, List, map, Option, Some, None, sym, ap, ◌∙◌}
use Rattle.std.specs.Option.{option_map}
use Rattle.c_types_model.specs.Layouts.{capped_extent, extent_of}
use Rattle.c_types_model.specs.declared.extent.Extent.{Extent}
use Rattle.c_types_table.specs.declared.ids.TypeId.{TypeId}
use Rattle.c_types_table.specs.declared.ty.Ty.{Ty}
use Rattle.c_types_table.specs.Tables.{type_at}
use Rattle.c_types_rules.specs.Operators.{size_in}
use Rattle.c_types_program.specs.Declarations.{Declared, structs_in}
use Rattle.c_lower_layout.specs.Sources.{source_in}
use Rattle.c_lower_layout.proofs.Sized.{size_capped, size_or}
use Rattle.c_lower_layout.proofs.Placing.{extents_declared}
use Rattle.c_lower_layout.proofs.index.Index.size_of.Goals as goal

-- the size that is found is that of the source
size_found : (p : Declared) (types : List Ty) (structs : List Extent) (id : TypeId) (e : Option Extent) → types ≡ p.table.types → structs ≡ p.structs.extents → e ≡ option_map capped_extent (extent_of structs (type_at types id))
    → size_or e ≡ size_in (map (λ s. s.extent) (structs_in p.table.types p.structs)) (type_at p.table.types id)
size_found p types structs id e et es h =
    let all = es ∙ sym (extents_declared p.table.types p.structs.members 0 p.structs.extents) in
    let ss = map (λ s. s.extent) (structs_in p.table.types p.structs) in
    ap size_or (h ∙ (ap (λ (xs : List Extent). option_map capped_extent (extent_of xs (type_at types id))) all ∙ ap (λ (ts : List Ty). option_map capped_extent (extent_of ss (type_at ts id))) et))
    ∙ size_capped ss (type_at p.table.types id)

pub returns-in-Some : goal.returns-in-Some
unfolding source_in
returns-in-Some c = size_found c.args.self.now c.types.result.now c.extents.result.now c.args.ty (Some c.in-Some.extent) c.types.ensures c.extents.ensures (sym c.in-Some.is ∙ c.extent.ensures)

pub returns-in-None : goal.returns-in-None
unfolding source_in
returns-in-None c = size_found c.args.self.now c.types.result.now c.extents.result.now c.args.ty None c.types.ensures c.extents.ensures (sym c.in-None.is ∙ c.extent.ensures)
