-- What stands between quotes lies in the bytes.
use Rattle.std.proofs.Common.{◌≡◌, ℕ, ◌+◌, ◌*◌, ◌≤◌, Bool, true, false, ◌&&◌, ◌==◌, List, [], ◌∷◌, length, arith, Option, Some, None, if◌then◌else◌}
use Rattle.c_lexer.specs.declared.text_part.Part.{Part}
use Rattle.c_lexer.specs.declared.text_part.Part.TheVariants.{Close, Byte, Open, Bad}
use Rattle.c_lexer.specs.Bytes.{digit_of, is_digit_in}
use Rattle.c_lexer.specs.Texts.{part_at, escape, hex_escape, simple_escape, escaped, is_plain}

-- what holds of both arms holds of the choice
pub either_arm : {A : Type 0} (P : A → Type 0) (b : Bool) (x y : A) → P x → P y → P (if b then x else y)
either_arm P true x y p q = p
either_arm P false x y p q = q

-- it takes one byte at least, and m at most
abbrev pub PartIn : ℕ → Part → Type 0
PartIn m (Byte v n) = (1 ≤ n) × (n ≤ m)
PartIn m Close = Unit {0}
PartIn m Open = Unit {0}
PartIn m Bad = Unit {0}

hex_in : (bs : List ℕ) (m : ℕ) → length bs + 2 ≤ m → PartIn m (hex_escape bs)
unfolding hex_escape
hex_in [] m h = tt
hex_in (a ∷ []) m h = tt
hex_in (a ∷ l ∷ bs) m h = either_arm (PartIn m) (is_digit_in 16 a && is_digit_in 16 l) (Byte (digit_of a * 16 + digit_of l) 4) Bad (omega arith, omega arith) tt

simple_in : (r : Option ℕ) (m : ℕ) → 2 ≤ m → PartIn m (simple_escape r)
simple_in None m h = tt
simple_in (Some v) m h = (omega arith, h)

escape_in : (bs : List ℕ) (m : ℕ) → length bs + 1 ≤ m → PartIn m (escape bs)
unfolding escape
escape_in [] m h = tt
escape_in (b ∷ bs) m h = either_arm (PartIn m) (b == 120) (hex_escape bs) (simple_escape (escaped b)) (hex_in bs m (omega arith)) (simple_in (escaped b) m (omega arith))

pub part_in : (quote : ℕ) (bs : List ℕ) → PartIn (length bs) (part_at quote bs)
unfolding part_at
part_in quote [] = tt
part_in quote (b ∷ bs) =
    either_arm (PartIn (length (b ∷ bs))) (b == quote) Close (if b == 10 then Open else (if b == 92 then escape bs else (if is_plain quote b then Byte b 1 else Bad))) tt (
    either_arm (PartIn (length (b ∷ bs))) (b == 10) Open (if b == 92 then escape bs else (if is_plain quote b then Byte b 1 else Bad)) tt (
    either_arm (PartIn (length (b ∷ bs))) (b == 92) (escape bs) (if is_plain quote b then Byte b 1 else Bad) (escape_in bs (length (b ∷ bs)) (omega arith)) (
    either_arm (PartIn (length (b ∷ bs))) (is_plain quote b) (Byte b 1) Bad (omega arith, omega arith) tt)))

pub byte_in : (quote : ℕ) (bs : List ℕ) (v n : ℕ) → part_at quote bs ≡ Byte v n → (1 ≤ n) × (n ≤ length bs)
byte_in quote bs v n e = rw e at (part_in quote bs)
