-- Where instructions stand in flat code, and where they lead.
use Rattle.std.specs.Prelude.{◌≡◌, ℕ, ◌+◌, ◌-◌, List, Some, slice_get}
use Rattle.c_code.specs.declared.instr.Instr.{Instr}
use Rattle.c_code.specs.declared.instr.Instr.TheVariants as instr

-- the instruction stands at a place, and `to` is the place after it
pub record Has (code : List Instr) (at : ℕ) (i : Instr) (to : ℕ) : Type 0 where
  pub here : slice_get code at ≡ Some i
  pub after : at + 1 ≡ to

-- a jump forward stands at a place, and leads there
pub record Jumps (code : List Instr) (at : ℕ) (jump : ℕ → Instr) (target : ℕ) : Type 0 where
  pub by : ℕ
  pub here : slice_get code at ≡ Some (jump by)
  pub lands : at + 1 + by ≡ target

-- the way back of a loop stands at a place, and leads after the loop's Turn
pub record GoesBack (code : List Instr) (at target : ℕ) : Type 0 where
  pub by : ℕ
  pub here : slice_get code at ≡ Some (instr.GoBack by)
  pub lands : at - by ≡ target
