-- Areas of memory, and which of their bytes are live.
use Rattle.std.specs.Prelude.{◌≡◌, ℕ, ◌+◌, ◌-◌, ◌^◌, ◌<◌, ◌≤◌, Bool, true, ◌&&◌, List, [], ◌∷◌, length, map, Option, None, if◌then◌else◌, nat_lt, nat_le, slice_index_or, Any}
use Rattle.std.specs.List.{HoldsAt}
use Rattle.marks.specs.declared.range.Range.{Range}

-- an area: its first address, and its bytes from there on, None where a byte is dead
pub record AreaState : Type 0 where
  pub base : ℕ
  pub cells : List (Option ℕ)

-- whether the address is one of the area's
abbrev pub holds : AreaState → ℕ → Bool
holds a x = nat_le a.base x && nat_lt (x - a.base) (length a.cells)

-- what the area has at an address of its own
abbrev pub cell : AreaState → ℕ → Option ℕ
cell a x = slice_index_or a.cells (x - a.base) None

-- the byte at the address, None where it is dead
unfoldable pub byte_at : List AreaState → ℕ → Option ℕ
byte_at [] x = None
byte_at (a ∷ rest) x = if holds a x then cell a x else byte_at rest x

-- the addresses of an area
abbrev pub extent : AreaState → Range
extent a = record { addr = a.base; len = length a.cells }

-- the addresses of each area
abbrev pub extents : List AreaState → List Range
extents areas = map extent areas

-- the ranges rise from an address on, with at least one address between two of them and after the last
abbrev pub RiseFrom : ℕ → List Range → Type 0
RiseFrom from [] = from ≤ 2 ^ 64
RiseFrom from (r ∷ rs) = (from ≤ r.addr) × RiseFrom (r.addr + r.len + 1) rs

-- the range lies whole in one of the ranges
abbrev pub LiesIn : Range → List Range → Type 0
LiesIn r rs = Any (λ e. (e.addr ≤ r.addr) × (r.addr + r.len ≤ e.addr + e.len)) rs

-- the area at a place of the list has the address
abbrev pub IsHolder : List AreaState → ℕ → ℕ → Type 0
IsHolder areas x at = (at < length areas) × HoldsAt (λ a. holds a x ≡ true) areas at

-- the byte at the address is dead
abbrev pub IsDead : List AreaState → ℕ → Type 0
IsDead bytes x = byte_at bytes x ≡ None

-- each of the n bytes from the address on is live
abbrev pub AllLive : List AreaState → ℕ → ℕ → Type 0
AllLive bytes addr n = (i : ℕ) → i < n → ¬ IsDead bytes (addr + i)
