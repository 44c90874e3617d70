-- Objects in a row that end within 64 bits.
use Rattle.std.proofs.Common.{◌≡◌, ℕ, suc, ◌+◌, ◌<◌, ◌≤◌, ◌^◌, List, [], ◌∷◌, length, drop, drop-cons, get_or, ap, arith}
use Rattle.std.specs.Int.{next_multiple_of}
use Rattle.c_types_model.specs.Layouts.{end_from}
use Rattle.c_types_model.specs.declared.extent.Extent.{Extent}
use Rattle.c_types_table.specs.declared.ids.TypeId.{TypeId}
use Rattle.c_types_table.specs.declared.ty.Ty.{Ty}
use Rattle.c_types_table.specs.Tables.{type_at}
use Rattle.c_types_program.specs.Declarations.{types_in}
use Rattle.c_lower_layout.specs.Indexed.{extent_in, extents_at}

-- the end is no less than the beginning
pub end_is_after : (at : ℕ) (es : List Extent) → at ≤ end_from at es
end_is_after at [] = omega arith
end_is_after at (e ∷ es) = let rest = end_is_after (next_multiple_of at e.align + e.size) es in omega (arith, rest)

-- the next object ends where it may
pub next_fits : (structs : List Extent) (types : List Ty) (ids : List TypeId) (k at : ℕ) (d : TypeId) → k < length ids → end_from at (extents_at structs (types_in types (drop k ids))) < 2 ^ 64
    → next_multiple_of at (extent_in structs (type_at types (get_or ids k d))).align + (extent_in structs (type_at types (get_or ids k d))).size < 2 ^ 64
next_fits structs types ids k at d lt small =
    let e = extent_in structs (type_at types (get_or ids k d)) in
    let rest = extents_at structs (types_in types (drop (suc k) ids)) in
    let ends : end_from at (extents_at structs (types_in types (drop k ids))) ≡ end_from (next_multiple_of at e.align + e.size) rest = ap (λ (l : List TypeId). end_from at (extents_at structs (types_in types l))) (drop-cons ids k d lt) in
    omega (arith, ends, small, end_is_after (next_multiple_of at e.align + e.size) rest)

pub size_fits : (structs : List Extent) (types : List Ty) (ids : List TypeId) (k at : ℕ) (d : TypeId) → k < length ids → end_from at (extents_at structs (types_in types (drop k ids))) < 2 ^ 64
    → (extent_in structs (type_at types (get_or ids k d))).size < 2 ^ 64
size_fits structs types ids k at d lt small = let fits = next_fits structs types ids k at d lt small in omega (arith, fits)
