-- The next address from one on at which something holds.
use Rattle.std.specs.Prelude.{ℕ, ◌≤◌, Option, MatchOption}

-- the least address from one on at which P holds
pub record IsNext (P : ℕ → Type 0) (from x : ℕ) : Type 0 where
  pub reached : from ≤ x
  pub holds : P x
  pub least : (y : ℕ) → from ≤ y → P y → x ≤ y

-- the least address from one on at which P holds, if there is one
abbrev pub IsNextOf : (ℕ → Type 0) → ℕ → Option ℕ → Type 0
IsNextOf P from next = MatchOption next ((y : ℕ) → from ≤ y → ¬ P y) (IsNext P from)
