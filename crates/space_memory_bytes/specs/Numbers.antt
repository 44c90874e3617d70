-- Numbers in memory, low byte first, and what a change of memory leaves.
use Rattle.std.specs.Prelude.{◌≡◌, ℕ, ◌+◌, ◌/◌, ◌%◌, ◌^◌, ◌<◌, true, false, List, Option, Some, length, slice_index}
use Rattle.marks.specs.declared.range.Range.{Range}
use Rattle.marks.specs.Ranges.{covers}
use Rattle.space_memory_bytes.specs.Areas.{AreaState, byte_at, extents}

-- byte number i of a number, from the low one on
abbrev pub digit : ℕ → ℕ → ℕ
digit value i = value / 256 ^ i % 256

-- the n bytes from the address on are the low bytes of the number, the lowest first
abbrev pub HasNumber : List AreaState → ℕ → ℕ → ℕ → Type 0
HasNumber bytes addr n value = (i : ℕ) → i < n → byte_at bytes (addr + i) ≡ Some (digit value i)

-- the bytes from the address on are those of the list
abbrev pub HasBytes : List AreaState → ℕ → List ℕ → Type 0
HasBytes bytes addr values = (i : ℕ) → i < length values →
    byte_at bytes (addr + i) ≡ Some (slice_index values i)

-- the areas and every byte out of the range are as before
pub record SameOutside (r : Range) (old new : List AreaState) : Type 0 where
  pub areas : extents new ≡ extents old
  pub bytes : (x : ℕ) → covers r x ≡ false → byte_at new x ≡ byte_at old x

-- each byte of the range is the given one, and the areas and all other bytes are as before
pub record FillsWith (r : Range) (value : Option ℕ) (old new : List AreaState) : Type 0 where
  pub filled : (x : ℕ) → covers r x ≡ true → byte_at new x ≡ value
  pub others : SameOutside r old new
