-- Integer constants (C11 6.4.4.1).
use Rattle.std.specs.Prelude.{ℕ, ◌+◌, ◌*◌, ◌^◌, Bool, true, false, List, [], ◌∷◌, take, drop, Option, Some, None, Result, Ok, Err, nat_eq, nat_lt, ◌==◌, if◌then◌else◌, codes}
use Rattle.std.specs.List.{starts_with}
use Rattle.std.specs.Cmp.Lexicographic.{pointwise}
use Rattle.c_lexer.specs.declared.token.Suffix.{Suffix}
use Rattle.c_lexer.specs.declared.token.Suffix.TheVariants as suffixes
use Rattle.c_lexer.specs.declared.token.Kind.{Kind}
use Rattle.c_lexer.specs.declared.token.Kind.TheVariants as kinds
use Rattle.c_lexer.specs.declared.item.Fault.{Fault}
use Rattle.c_lexer.specs.declared.item.Fault.TheVariants.{BadByte, BigNumber}
use Rattle.c_lexer.specs.Bytes.{run, digit_of, is_digit_in}

-- the number that the digits spell after n
abbrev pub number_from : ℕ → ℕ → List ℕ → ℕ
number_from base n [] = n
number_from base n (d ∷ ds) = number_from base (n * base + digit_of d) ds

-- the suffixes, in either case and order
abbrev pub suffix_texts : List (List ℕ × Suffix)
suffix_texts = ([], suffixes.Plain) ∷ (codes "u", suffixes.U) ∷ (codes "U", suffixes.U) ∷
    (codes "l", suffixes.L) ∷ (codes "L", suffixes.L) ∷ (codes "ul", suffixes.UL) ∷
    (codes "uL", suffixes.UL) ∷ (codes "Ul", suffixes.UL) ∷ (codes "UL", suffixes.UL) ∷
    (codes "lu", suffixes.UL) ∷ (codes "lU", suffixes.UL) ∷ (codes "Lu", suffixes.UL) ∷
    (codes "LU", suffixes.UL) ∷ []

abbrev pub first_suffix : List (List ℕ × Suffix) → List ℕ → Option Suffix
first_suffix [] text = None
first_suffix (x ∷ xs) text = if pointwise nat_eq text x.0 then Some x.1 else first_suffix xs text

-- the suffix that is spelled so, if any
unfoldable pub suffix_of : List ℕ → Option Suffix
suffix_of text = first_suffix suffix_texts text

-- the widest type that a number may have is long or unsigned long; no value of it reaches this
abbrev pub limit : Suffix → Bool → ℕ
limit suffixes.Plain decimal = if decimal then 2 ^ 63 else 2 ^ 64
limit suffixes.L decimal = if decimal then 2 ^ 63 else 2 ^ 64
limit suffixes.U decimal = 2 ^ 64
limit suffixes.UL decimal = 2 ^ 64

-- a number that has a type
unfoldable pub typed : Bool → ℕ → Suffix → Result Kind Fault
typed decimal n suffix = if nat_lt n (limit suffix decimal) then Ok (kinds.Number suffix decimal n) else
    Err BigNumber

unfoldable pub suffixed : Bool → ℕ → Option Suffix → Result Kind Fault
suffixed decimal n None = Err BadByte
suffixed decimal n (Some suffix) = typed decimal n suffix

-- digits of the base, of which there are `count`, and a suffix
unfoldable pub digits_and_suffix : ℕ → Bool → ℕ → List ℕ → Result Kind Fault
digits_and_suffix base decimal count text = if count == 0 then Err BadByte else suffixed decimal
    (number_from base 0 (take count text)) (suffix_of (drop count text))

unfoldable pub based : ℕ → Bool → List ℕ → Result Kind Fault
based base decimal text = digits_and_suffix base decimal (run (is_digit_in base) text) text

-- the number that is spelled so: hexadecimal after `0x`, octal after `0`, else decimal
unfoldable pub number_of : List ℕ → Result Kind Fault
number_of text = if starts_with nat_eq text (codes "0x") then based 16 false (drop 2 text) else
    (if starts_with nat_eq text (codes "0") then based 8 false text else based 10 true text)
