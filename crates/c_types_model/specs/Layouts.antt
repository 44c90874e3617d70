-- Sizes, alignments and offsets in bytes (C11 6.2.8, 6.5.3.4, 6.7.2.1). The sizes of scalars are this
-- language's.
use Rattle.std.specs.Prelude.{ℕ, ◌+◌, ◌-◌, ◌*◌, ◌/◌, ◌^◌, ◌<◌, max, min, List, [], ◌∷◌, Option, Some, None, slice_get}
use Rattle.std.specs.Int.{next_multiple_of}
use Rattle.std.specs.Option.{option_map}
use Rattle.r2_num.specs.declared.kinds.IntKind.{IntKind}
use Rattle.r2_num.specs.Kinds.{width_of}
use Rattle.c_types_model.specs.declared.extent.Extent.{Extent}
use Rattle.c_types_model.specs.declared.layout.Layout.{Layout}
use Rattle.c_types_model.specs.Types.{CType, Void, Integer, PointerTo, ArrayOf, StructOf, UndefinedStruct, FunctionOf}

-- a scalar of n bytes is aligned to its size
abbrev pub scalar : ℕ → Extent
scalar n = record { size = n; align = n }

abbrev pub kind_extent : IntKind → Extent
kind_extent k = scalar (width_of k / 8)

abbrev pub pointer_extent : Extent
pointer_extent = scalar 8

-- n objects, one after another (C11 6.2.5, 20)
abbrev pub repeated : ℕ → Extent → Extent
repeated n e = record { size = n * e.size; align = e.align }

-- where members lie from an offset on: each at the next multiple of its alignment (C11 6.7.2.1, 14 and 15)
abbrev pub offsets_from : ℕ → List Extent → List ℕ
offsets_from at [] = []
offsets_from at (m ∷ ms) = let offset = next_multiple_of at m.align in offset ∷
    offsets_from (offset + m.size) ms

-- where the last of them ends
abbrev pub end_from : ℕ → List Extent → ℕ
end_from at [] = at
end_from at (m ∷ ms) = end_from (next_multiple_of at m.align + m.size) ms

-- the greatest alignment
abbrev pub greatest_align : List Extent → ℕ
greatest_align [] = 1
greatest_align (m ∷ ms) = max m.align (greatest_align ms)

-- a struct with these members has the greatest alignment, to which its size is rounded up (C11 6.7.2.1, 17)
abbrev pub struct_of : List Extent → Extent
struct_of ms = record {
  size = next_multiple_of (end_from 0 ms) (greatest_align ms);
  align =
      greatest_align ms;
}

-- size and alignment of a complete object type, where `structs` has those of the defined structs; None of
-- any other type
abbrev pub extent_of : (structs : List Extent) → CType → Option Extent
extent_of structs Void = None
extent_of structs (Integer k) = Some (kind_extent k)
extent_of structs (PointerTo t) = Some pointer_extent
extent_of structs (ArrayOf n t) = option_map (repeated n) (extent_of structs t)
extent_of structs (StructOf i) = slice_get structs i
extent_of structs (UndefinedStruct tag) = None
extent_of structs (FunctionOf r ps) = None

-- an address can be a multiple of the alignment
abbrev pub IsAligned : Extent → Type 0
IsAligned e = 0 < e.align

-- a number that is too great for 64 bits counts as the greatest of them
abbrev pub capped : ℕ → ℕ
capped n = min n (2 ^ 64 - 1)

abbrev pub capped_extent : Extent → Extent
capped_extent e = record { size = capped e.size; align = e.align }

abbrev pub extent_of_layout : Layout → Extent
extent_of_layout l = record { size = l.size; align = l.align }
