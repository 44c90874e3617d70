-- The rows of memory that a report shows.
use Rattle.std.specs.Prelude.{ℕ, zero, suc, ◌+◌, ◌-◌, ◌/◌, Bool, true, false, if◌then◌else◌, List, [], ◌++◌, codes, map, flat_map}
use Rattle.std.specs.List.{list_any, range_with_len}
use Rattle.std.specs.Int.{w32, to_be_bytes}
use Rattle.memory_map.specs.declared.areas.TheConstants.{REPLAY_MEMORY}
use Rattle.space_memory.specs.declared.cell.Cell.{Cell}
use Rattle.space_memory.specs.declared.cell.Cell.TheVariants.{Dead, Pending, Byte}
use Rattle.space_memory.specs.Spaces.{SpaceState}
use Rattle.space_memory.specs.Cells.{cell_at}
use Rattle.call_inspector.specs.EventText.{byte_text}

-- a byte: its value, `--` where it is pending, `..` where it isn't live; each after a space
abbrev pub cell_text : Cell → List ℕ
cell_text Dead = codes " .."
cell_text Pending = codes " --"
cell_text (Byte b) = codes " " ++ byte_text b

abbrev pub is_live : Cell → Bool
is_live Dead = false
is_live Pending = true
is_live (Byte b) = true

-- the sixteen bytes from an address on
abbrev pub row_of : SpaceState → ℕ → List Cell
row_of memory addr = map (λ i. cell_at memory (addr + i)) (range_with_len 0 16)

-- the address in eight hexadecimal digits, then the bytes
abbrev pub row_text : ℕ → List Cell → List ℕ
row_text addr cells = flat_map byte_text (to_be_bytes w32 addr) ++ flat_map cell_text cells

abbrev pub is_live_row : SpaceState → ℕ → Bool
is_live_row memory addr = list_any is_live (row_of memory addr)

-- a line for each of so many rows, from an address on, that has a live byte
unfoldable pub rows_text : SpaceState → ℕ → ℕ → List ℕ
rows_text memory addr zero = []
rows_text memory addr (suc rows) =
    (if is_live_row memory addr then row_text addr (row_of memory addr) ++ codes "\n" else []) ++
    rows_text memory (addr + 16) rows

-- the end of the memory above the cut
abbrev pub rows_end : ℕ
rows_end = REPLAY_MEMORY.addr + REPLAY_MEMORY.len

-- the rows from an address to the end of the memory above the cut
abbrev pub rows_from : SpaceState → ℕ → List ℕ
rows_from memory addr = rows_text memory addr ((rows_end - addr) / 16)

-- all rows of the memory above the cut that have a live byte
abbrev pub memory_text : SpaceState → List ℕ
memory_text memory = rows_from memory REPLAY_MEMORY.addr
