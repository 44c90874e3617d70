-- Characters and strings (C11 6.4.4.4 and 6.4.5).
use Rattle.std.specs.Prelude.{ℕ, zero, suc, ◌+◌, ◌-◌, ◌*◌, Bool, ◌&&◌, ◌||◌, List, [], ◌∷◌, drop, Option, Some, None, ℤ, pos, negsuc, nat_eq, nat_le, nat_lt, ◌==◌, if◌then◌else◌, codes}
use Rattle.std.specs.List.{starts_with}
use Rattle.c_lexer.specs.declared.token.Kind.TheVariants as kinds
use Rattle.c_lexer.specs.declared.item.Item.{Item}
use Rattle.c_lexer.specs.declared.item.Item.TheVariants as items
use Rattle.c_lexer.specs.declared.item.Fault.TheVariants.{BadByte, OpenText}
use Rattle.c_lexer.specs.declared.text_part.Part.{Part}
use Rattle.c_lexer.specs.declared.text_part.Part.TheVariants.{Close, Byte, Open, Bad}
use Rattle.c_lexer.specs.Bytes.{digit_of, is_digit_in}

-- the byte that a `\` and this letter stand for (6.4.4.4, simple-escape-sequence): n, t, r, 0 and what
-- stands for itself
unfoldable pub escaped : ℕ → Option ℕ
escaped b = if b == 110 then Some 10 else (if b == 116 then Some 9 else
    (if b == 114 then Some 13 else (if b == 48 then Some 0 else (if (b == 92) || (b == 39) ||
    (b == 34) then Some b else None))))

-- the byte that `\x` and exactly two digits stand for
unfoldable pub hex_escape : List ℕ → Part
hex_escape (h ∷ l ∷ bs) = if is_digit_in 16 h &&
    is_digit_in 16 l then Byte (digit_of h * 16 + digit_of l) 4 else Bad
hex_escape bs = Bad

abbrev pub simple_escape : Option ℕ → Part
simple_escape (Some byte) = Byte byte 2
simple_escape None = Bad

-- what a `\` and the bytes after it stand for
unfoldable pub escape : List ℕ → Part
escape [] = Bad
escape (b ∷ bs) = if b == 120 then hex_escape bs else simple_escape (escaped b)

-- a byte that stands for itself between these quotes; strings alone hold bytes past 127
unfoldable pub is_plain : ℕ → ℕ → Bool
is_plain quote b = (nat_le 32 b && nat_le b 126) || ((quote == 34) && nat_le 128 b)

-- what stands between quotes: the closing one, a byte and how many bytes spell it, an end of the line or
-- source, or what can't stand there
unfoldable pub part_at : ℕ → List ℕ → Part
part_at quote [] = Open
part_at quote (b ∷ bs) = if b == quote then Close else
    (if b == 10 then Open else (if b == 92 then escape bs else
    (if is_plain quote b then Byte b 1 else Bad)))

-- the value of a byte as a signed char
abbrev pub signed_char : ℕ → ℤ
signed_char b = if nat_lt b 128 then pos b else negsuc (255 - b)

-- a character, by what stands first after its opening quote, and the bytes from there
unfoldable pub character : Part → List ℕ → Item
character Close bs = items.Fault BadByte 1
character Open bs = items.Fault OpenText 0
character Bad bs = items.Fault BadByte 1
character (Byte b n) bs = if starts_with nat_eq (drop n bs) (codes "'") then items.Token (n + 2)
    (kinds.Char (signed_char b)) else items.Fault OpenText 0

-- the character whose opening quote the bytes follow
unfoldable pub character_at : List ℕ → Item
character_at bs = character (part_at 39 bs) bs

-- how a string goes on: up to its closing quote, of so many bytes with it, with these values; to no closing
-- quote; or to a byte that can't stand in it
pub data Quoted : Type 0 where
  Closed : ℕ → List ℕ → Quoted
  NeverClosed : Quoted
  BadAt : ℕ → Quoted

-- so many bytes further back, with a value before the others
abbrev pub held : ℕ → ℕ → Quoted → Quoted
held n b (Closed m bs) = Closed (n + m) (b ∷ bs)
held n b NeverClosed = NeverClosed
held n b (BadAt m) = BadAt (n + m)

-- how a string goes on, by what stands first and how it goes on after so many bytes
abbrev pub going_on : Part → (ℕ → Quoted) → Quoted
going_on Close after = Closed 1 []
going_on (Byte v n) after = held n v (after n)
going_on Open after = NeverClosed
going_on Bad after = BadAt 0

-- how a string goes on after the first k bytes, which spell a value already read
abbrev pub string_after : List ℕ → ℕ → Quoted
string_after [] k = NeverClosed
string_after (b ∷ bs) (suc k) = string_after bs k
string_after (b ∷ bs) zero = going_on (part_at 34 (b ∷ bs)) (λ n. string_after bs (n - 1))

-- a string, by how it goes on after its opening quote
unfoldable pub string : Quoted → Item
string (Closed n bs) = items.Token (n + 1) (kinds.Text bs)
string NeverClosed = items.Fault OpenText 0
string (BadAt n) = items.Fault BadByte (n + 1)

-- the string whose opening quote the bytes follow
unfoldable pub string_at : List ℕ → Item
string_at bs = string (string_after bs 0)
