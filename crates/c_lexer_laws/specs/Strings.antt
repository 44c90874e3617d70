-- The strings among tokens, and how many bytes of a source they take (C11 6.4.5).
use Rattle.std.specs.Prelude.{ℕ, ◌+◌, List, [], ◌∷◌, length}
use Rattle.c_lexer.specs.declared.token.Kind.{Kind}
use Rattle.c_lexer.specs.declared.token.Kind.TheVariants as kinds
use Rattle.c_lexer.specs.declared.token.Token.{Token}

abbrev pub if_string : Kind → List (List ℕ) → List (List ℕ)
if_string (kinds.Name name) rest = rest
if_string (kinds.Word word) rest = rest
if_string (kinds.Number suffix decimal value) rest = rest
if_string (kinds.Char value) rest = rest
if_string (kinds.Text bytes) rest = bytes ∷ rest
if_string (kinds.Sign sign) rest = rest

-- the bytes of the strings, in their order
abbrev pub strings_among : List Token → List (List ℕ)
strings_among [] = []
strings_among (t ∷ ts) = if_string t.kind (strings_among ts)

-- how many bytes of a source strings take: each has two quotes, and at least a byte for each of its own
abbrev pub spelled : List (List ℕ) → ℕ
spelled [] = 0
spelled (bytes ∷ rest) = length bytes + 2 + spelled rest
