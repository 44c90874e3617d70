-- Classes of bytes.
use Rattle.std.specs.Prelude.{ℕ, ◌+◌, ◌-◌, Bool, ◌&&◌, ◌||◌, not, List, [], ◌∷◌, nat_le, nat_lt, ◌==◌, if◌then◌else◌}
use Rattle.c_lexer.specs.declared.bytes.Class.{Class}
use Rattle.c_lexer.specs.declared.bytes.Class.TheVariants as classes

-- a letter or `_` (C11 6.4.2.1, nondigit)
unfoldable pub is_letter : ℕ → Bool
is_letter b = (nat_le 97 b && nat_le b 122) || (nat_le 65 b && nat_le b 90) || (b == 95)

-- a decimal digit (C11 6.4.2.1, digit)
unfoldable pub is_digit : ℕ → Bool
is_digit b = nat_le 48 b && nat_le b 57

-- a byte that a name may have
unfoldable pub is_name_byte : ℕ → Bool
is_name_byte b = is_letter b || is_digit b

-- a space or a tab
unfoldable pub is_blank : ℕ → Bool
is_blank b = (b == 32) || (b == 9)

-- a byte that ends no line
unfoldable pub is_line_byte : ℕ → Bool
is_line_byte b = not (b == 10)

-- the value of a digit of any base up to 16, and 16 for what is none (C11 6.4.4.1)
unfoldable pub digit_of : ℕ → ℕ
digit_of b = if is_digit b then b - 48 else (if nat_le 97 b &&
    nat_le b 102 then b - 87 else (if nat_le 65 b && nat_le b 70 then b - 55 else 16))

-- a digit of the base
unfoldable pub is_digit_in : ℕ → ℕ → Bool
is_digit_in base b = nat_lt (digit_of b) base

-- how many bytes at the prefix pass the test
abbrev pub run : (ℕ → Bool) → List ℕ → ℕ
run p [] = 0
run p (b ∷ bs) = if p b then run p bs + 1 else 0

-- the test of a class
abbrev pub test_of : Class → ℕ → Bool
test_of classes.Blank = is_blank
test_of classes.Line = is_line_byte
test_of classes.Name = is_name_byte
test_of (classes.Digit base) = is_digit_in base
