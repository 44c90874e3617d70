-- The size and alignment of a type of a program, as they are found.
use Rattle.std.proofs.Common.{◌≡◌, IsTrue, List, map, Option, Some, None, sym, ap, ◌∙◌}
use Rattle.std.specs.Prelude.{is_some}
use Rattle.std.specs.Option.{option_map}
use Rattle.c_types_model.specs.Layouts.{capped_extent, extent_of}
use Rattle.c_types_model.specs.declared.extent.Extent.{Extent}
use Rattle.c_types_table.specs.declared.ids.TypeId.{TypeId}
use Rattle.c_types_table.specs.declared.ty.Ty.{Ty}
use Rattle.c_types_table.specs.Tables.{type_at}
use Rattle.c_types_program.specs.Declarations.{Declared, structs_in}
use Rattle.c_lower_layout.proofs.Placing.{extents_declared}

-- it is that of the source
pub extent_found : (p : Declared) (types : List Ty) (structs : List Extent) (id : TypeId) (e : Option Extent) → types ≡ p.table.types → structs ≡ p.structs.extents → e ≡ option_map capped_extent (extent_of structs (type_at types id))
    → e ≡ option_map capped_extent (extent_of (map (λ s. s.extent) (structs_in p.table.types p.structs)) (type_at p.table.types id))
extent_found p types structs id e et es h =
    let all = es ∙ sym (extents_declared p.table.types p.structs.members 0 p.structs.extents) in
    let ss = map (λ s. s.extent) (structs_in p.table.types p.structs) in
    h ∙ (ap (λ (xs : List Extent). option_map capped_extent (extent_of xs (type_at types id))) all ∙ ap (λ (ts : List Ty). option_map capped_extent (extent_of ss (type_at ts id))) et)

-- what there is is found
pub some_found : (o : Option Extent) → IsTrue (is_some o) → None ≡ option_map capped_extent o → ⊥
some_found None h e = cc
some_found (Some x) h e = cc
