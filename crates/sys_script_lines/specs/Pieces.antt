-- Pieces of bytes, in hexadecimal digits of lower case.
use Rattle.std.specs.Prelude.{ℕ, ◌+◌, ◌*◌, ◌-◌, ◌==◌, ◌&&◌, nat_le, if◌then◌else◌, List, [], ◌∷◌, ◌++◌, Option, Some, None}
use Rattle.std.specs.Option.{option_map, option_and_then}
use Rattle.sys_script_lines.specs.Each.{before}

-- the value of a digit
abbrev pub hex_digit : ℕ → Option ℕ
hex_digit b = if nat_le 48 b && nat_le b 57 then Some (b - 48) else if nat_le 97 b &&
    nat_le b 102 then Some (b - 97 + 10) else None

-- the byte that two digits spell, the high one first
abbrev pub hex_byte : (high low : ℕ) → Option ℕ
hex_byte high low = option_and_then (λ h. option_map (λ l. h * 16 + l) (hex_digit low)) (hex_digit high)

-- the bytes that digits spell, an even number of them
abbrev pub hex_bytes : List ℕ → Option (List ℕ)
hex_bytes [] = Some []
hex_bytes (b ∷ []) = None
hex_bytes (high ∷ low ∷ digits) = option_and_then (before (hex_bytes digits)) (hex_byte high low)

-- the bytes of one piece: digits, or `-` for none; the empty word is no piece
abbrev pub piece : List ℕ → Option (List ℕ)
piece [] = None
piece (b ∷ []) = if b == 45 then Some [] else None
piece (b ∷ c ∷ digits) = hex_bytes (b ∷ c ∷ digits)

-- the pieces so far, and one more, where there is one
abbrev pub with_piece : List (List ℕ) → Option (List ℕ) → Option (List (List ℕ))
with_piece so_far more = option_map (λ p. so_far ++ p ∷ []) more
