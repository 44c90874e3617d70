-- Decimal numbers without a sign or leading zeros.
use Rattle.std.specs.Prelude.{◌≡◌, ℕ, ◌+◌, ◌*◌, ◌-◌, ◌==◌, Bool, ◌&&◌, nat_le, if◌then◌else◌, List, [], ◌∷◌, ◌++◌, Option, Some, None}
use Rattle.std.specs.Option.{option_and_then}

-- a byte that is one of the ten digits
abbrev pub is_digit : ℕ → Bool
is_digit b = nat_le 48 b && nat_le b 57

-- the number whose digits go on so; None where a byte isn't a digit
abbrev pub digits_from : ℕ → List ℕ → Option ℕ
digits_from n [] = Some n
digits_from n (b ∷ bs) = if is_digit b then digits_from (n * 10 + (b - 48)) bs else None

-- the number that a text spells: one digit at least, and no zero before others
abbrev pub number : List ℕ → Option ℕ
number [] = None
number (b ∷ []) = digits_from 0 (b ∷ [])
number (b ∷ c ∷ bs) = if b == 48 then None else digits_from 0 (b ∷ c ∷ bs)

-- the number, where it is from the least to the most
abbrev pub within : (least most : ℕ) → ℕ → Option ℕ
within least most n = if nat_le least n && nat_le n most then Some n else None

abbrev pub number_in : (least most : ℕ) → List ℕ → Option ℕ
number_in least most text = option_and_then (within least most) (number text)

-- the text begins with the digits of a number, and this follows them
pub record IsLeading (text : List ℕ) (n : ℕ) (rest : List ℕ) : Type 0 where
  pub digits : List ℕ
  pub text_is : text ≡ digits ++ rest
  pub number_is : number digits ≡ Some n
