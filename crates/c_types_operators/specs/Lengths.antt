-- Lengths of arrays.
use Rattle.std.specs.Prelude.{◌≡◌, ℕ, ℤ, pos, ◌<◌, ◌≢◌, Option, Some, Result, Ok, Err}
use Rattle.c_types_operators.specs.declared.error.TypeError.{TypeError}
use Rattle.c_types_operators.specs.declared.error.TypeError.TheVariants.{Rule, Memory}

-- a constant of 1 or more is a length; anything else breaks the rule (C11 6.7.6.2, 1)
abbrev pub IsLength : (from : ℕ) → Option ℤ → Result ℕ TypeError → Type 0
IsLength from constant (Ok n) = (0 < n) × (constant ≡ Some (pos n))
IsLength from constant (Err (Rule f r)) = ((n : ℕ) → 0 < n → constant ≢ Some (pos n)) × (f ≡ from) × (r ≡ 4)
IsLength from constant (Err Memory) = ⊥
