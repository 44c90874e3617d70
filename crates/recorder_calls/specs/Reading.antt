-- The bytes that memory has in ranges that code above the cut may read.
use Rattle.std.specs.Prelude.{ℕ, zero, suc, ◌^◌, ◌<◌, false, List, [], ◌∷◌, ◌++◌, All, unwrap_or}
use Rattle.marks.specs.declared.range.Range.{Range}
use Rattle.space_memory_bytes.specs.Areas.{AreaState, byte_at}
use Rattle.space_memory_access.specs.Accesses.{IsAllowed}
use Rattle.space_memory.specs.Spaces.{SpaceState}
use Rattle.space_memory_laws.specs.Refusals.{access}

-- the bytes from an address on; 0 for a dead one
abbrev pub shown_from : List AreaState → (addr count : ℕ) → List ℕ
shown_from bytes addr zero = []
shown_from bytes addr (suc n) = unwrap_or (byte_at bytes addr) 0 ∷ shown_from bytes (suc addr) n

abbrev pub shown_in : List AreaState → Range → List ℕ
shown_in bytes r = shown_from bytes r.addr r.len

-- those of ranges, in a row
abbrev pub read_in : List AreaState → List Range → List ℕ
read_in bytes [] = []
read_in bytes (r ∷ rs) = shown_in bytes r ++ read_in bytes rs

-- the thread's code may read the range
abbrev pub MayBeRead : SpaceState → (thread : ℕ) → Range → Type 0
MayBeRead memory t r = r.addr < 2 ^ 64 →
    IsAllowed memory.bytes memory.held.regions (access t r.addr r.len false)

abbrev pub AllMayBeRead : SpaceState → (thread : ℕ) → List Range → Type 0
AllMayBeRead memory t ranges = All (MayBeRead memory t) ranges
