-- What a byte of memory shows.
use Rattle.std.specs.Prelude.{◌≡◌, ◌≢◌, ℕ, ◌+◌, ◌%◌, ◌<◌, Bool, true, false, ◌&&◌, List, Option, Some, None}
use Rattle.std.specs.List.{list_any}
use Rattle.marks.specs.Ranges.{covers}
use Rattle.space_memory_bytes.specs.Areas.{byte_at}
use Rattle.space_memory_access.specs.declared.holder.Region.{Region}
use Rattle.space_memory_access.specs.Holders.{is_pending}
use Rattle.space_memory.specs.declared.cell.Cell.{Cell}
use Rattle.space_memory.specs.declared.cell.Cell.TheVariants.{Dead, Pending, Byte}
use Rattle.space_memory.specs.Spaces.{SpaceState}

-- whether some region that waits for a call or a key has the address
abbrev pub is_held : List Region → ℕ → Bool
is_held regions x = list_any (λ r. is_pending r.holder && covers r.range x) regions

-- a dead byte, one that is pending, or its value
abbrev pub shown : Option ℕ → Bool → Cell
shown None held = Dead
shown (Some byte) true = Pending
shown (Some byte) false = Byte byte

-- the byte at an address
abbrev pub cell_at : SpaceState → ℕ → Cell
cell_at spaces x = shown (byte_at spaces.bytes x) (is_held spaces.held.regions x)

-- a row of 16 bytes begins at the address, and one of them is live
abbrev pub IsLiveRow : SpaceState → ℕ → Type 0
IsLiveRow spaces row = (row % 16 ≡ 0) × ((i : ℕ) × (i < 16) × (cell_at spaces (row + i) ≢ Dead))
