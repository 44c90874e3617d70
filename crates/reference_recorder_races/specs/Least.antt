-- The least number of which something holds.
use Rattle.std.specs.Prelude.{◌≡◌, ℕ, ◌≤◌, Bool, true, Option, Some, None}

-- the answer is the least number that passes the test; none where no number does
abbrev pub IsLeastAt : (ℕ → Bool) → Option ℕ → Type 0
IsLeastAt f None = (x : ℕ) → f x ≡ true → ⊥
IsLeastAt f (Some x) = (f x ≡ true) × ((y : ℕ) → f y ≡ true → x ≤ y)
