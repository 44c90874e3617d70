-- What a change of one area leaves.
use Rattle.std.specs.Prelude.{◌≡◌, ◌≢◌, ℕ, ◌+◌, ◌-◌, ◌<◌, ◌≤◌, true, List, Option, Some, None, if◌then◌else◌, length, slice_index}
use Rattle.marks.specs.declared.range.Range.{Range}
use Rattle.marks.specs.Ranges.{covers}
use Rattle.space_memory_bytes.specs.Areas.{AreaState, holds, cell}
use Rattle.space_memory_bytes.specs.Numbers.{digit}

-- the byte at the address is dead in the area, or none of it
abbrev pub IsDeadIn : AreaState → ℕ → Type 0
IsDeadIn a x = (if holds a x then cell a x else None) ≡ None

-- the byte at the address is the area's, and live
abbrev pub IsLiveIn : AreaState → ℕ → Type 0
IsLiveIn a x = (holds a x ≡ true) × (cell a x ≢ None)

-- each of the n bytes from the address on, which is the area's, is the area's and live
abbrev pub IsLiveRun : AreaState → ℕ → ℕ → Type 0
IsLiveRun a addr n = (i : ℕ) → i < n → cell a (addr + i) ≢ None

-- the n bytes from the address on are the low bytes of the number, the lowest first
abbrev pub IsNumber : AreaState → ℕ → ℕ → ℕ → Type 0
IsNumber a addr n value = (i : ℕ) → i < n → cell a (addr + i) ≡ Some (digit value i)

-- the area has the addresses that it had
pub record SameExtent (old new : AreaState) : Type 0 where
  pub base : new.base ≡ old.base
  pub size : length new.cells ≡ length old.cells

-- the n bytes from the address on are as a list by place says, and all others are as before
pub record ChangesArea (addr n : ℕ) (bytes : ℕ → Option ℕ) (old new : AreaState) : Type 0 where
  pub extent : SameExtent old new
  pub bytes_are : (x : ℕ) → old.base ≤ x → cell new x ≡
      (if covers (record { addr = addr; len = n }) x then bytes (x - addr) else cell old x)

-- each byte of the range is the given one
abbrev pub FillsArea : Range → Option ℕ → AreaState → AreaState → Type 0
FillsArea r byte = ChangesArea r.addr r.len (λ i. byte)

-- the bytes from the address on are those of the list
abbrev pub PutsInArea : ℕ → List ℕ → AreaState → AreaState → Type 0
PutsInArea addr bytes = ChangesArea addr (length bytes) (λ i. Some (slice_index bytes i))

-- the n bytes from the address on are the low bytes of the value, the lowest first
abbrev pub WritesArea : ℕ → ℕ → ℕ → AreaState → AreaState → Type 0
WritesArea addr n value = ChangesArea addr n (λ i. Some (digit value i))
