-- Members whose types go by numbers, and what they are where the numbers are read.
use Rattle.std.specs.Prelude.{ℕ, List, [], map, Option, slice_get, slice_index_or}
use Rattle.std.specs.Option.{option_map}
use Rattle.c_types_model.specs.Types.{CType}
use Rattle.c_types_model.specs.declared.extent.Extent.{Extent}
use Rattle.c_types_table.specs.declared.ids.TypeId.{TypeId}

-- the members of a struct in the order of its definition, each a name and the number of its type
abbrev pub MemberList : Type 0
MemberList = List (List ℕ × TypeId)

-- the structs that are defined, in the order of their numbers: their members, and their sizes and
-- alignments
pub record Definitions : Type 0 where
  pub members : List MemberList
  pub extents : List Extent

-- the members where the numbers of types stand for these
abbrev pub read_members : (TypeId → CType) → MemberList → List (List ℕ × CType)
read_members read ms = map (λ m. (m.0, read m.1)) ms

-- the members of the struct of a number; none of a number that has no struct
abbrev pub members_at : List MemberList → ℕ → MemberList
members_at mss number = slice_index_or mss number []

-- the number of the type of the member at a place; None past the last
abbrev pub type_of_member : MemberList → ℕ → Option TypeId
type_of_member ms place = option_map (λ m. m.1) (slice_get ms place)

-- a member's place and type, where the numbers of types stand for these
abbrev pub read_found : (TypeId → CType) → Option (ℕ × TypeId) → Option (ℕ × CType)
read_found read found = option_map (λ m. (m.0, read m.1)) found
