-- Numbers by their sign.
use Rattle.std.specs.Prelude.{ℕ, Bool, true, false, ℤ, pos, negsuc}

-- the number so far from 0, or from -1 where it is below 0
abbrev pub number_in : (below_zero : Bool) → (distance : ℕ) → ℤ
number_in false n = pos n
number_in true n = negsuc n
