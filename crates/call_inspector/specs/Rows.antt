-- The next row that has a live byte.
use Rattle.std.specs.Prelude.{◌≡◌, ℕ, ◌<◌, ◌≤◌, ◌%◌, true, false, Option, Some, None}
use Rattle.space_memory.specs.Spaces.{SpaceState}
use Rattle.call_inspector.specs.MemoryText.{is_live_row, rows_end}

-- no row from an address up to another has a live byte
abbrev pub NoneLive : SpaceState → ℕ → ℕ → Type 0
NoneLive memory from to = (x : ℕ) → from ≤ x → x < to → x % 16 ≡ 0 → is_live_row memory x ≡ false

-- a row with a live byte, and none before it
pub record IsRow (memory : SpaceState) (from row : ℕ) : Type 0 where
  pub not_before : from ≤ row
  pub within : row < rows_end
  pub aligned : row % 16 ≡ 0
  pub live : is_live_row memory row ≡ true
  pub first : NoneLive memory from row

-- the first row from an address on, in the memory above the cut, that has a live byte
abbrev pub IsNextRow : SpaceState → ℕ → Option ℕ → Type 0
IsNextRow memory from None = NoneLive memory from rows_end
IsNextRow memory from (Some row) = IsRow memory from row
