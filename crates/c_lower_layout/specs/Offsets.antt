-- Where the members of types lie (C11 6.7.2.1, 14 to 17).
use Rattle.std.specs.Prelude.{ℕ, max, List, [], Some, None, slice_get}
use Rattle.c_types_model.specs.Types.{CType, StructOf}
use Rattle.c_types_model.specs.Layouts.{capped}
use Rattle.c_types_model.specs.declared.extent.Extent.{Extent}
use Rattle.c_types_rules.specs.Sources.{Program}
use Rattle.c_lower_layout.specs.Indexed.{offsets_in}

-- how far the members of a struct lie after its beginning, in their order; nothing of any other type
abbrev pub offsets_of : Program → CType → List ℕ
offsets_of p (StructOf number) = elim (slice_get p.structs number) [ Some s ↦ offsets_in p s | None ↦ [] ]
offsets_of p t = []

-- a size of 64 bits, and an alignment of at least 1: with it a member lies where it lies without one
abbrev pub laid : Extent → Extent
laid e = record { size = capped e.size; align = max e.align 1 }
