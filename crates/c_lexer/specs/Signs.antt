-- The signs, and the longest that fits (C11 6.4.6, and 6.4 paragraph 4).
use Rattle.std.specs.Prelude.{◌≡◌, ℕ, ◌≤◌, Bool, true, List, [], ◌∷◌, length, Option, nat_eq, codes}
use Rattle.std.specs.List.{find, starts_with}
use Rattle.c_lexer.specs.declared.token.Sign.{Sign}
use Rattle.c_lexer.specs.declared.token.Sign.TheVariants as signs

-- how a sign is spelled
abbrev pub sign_text : Sign → List ℕ
sign_text signs.ShiftLeftAssign = codes "<<="
sign_text signs.ShiftRightAssign = codes ">>="
sign_text signs.Arrow = codes "->"
sign_text signs.Increment = codes "++"
sign_text signs.Decrement = codes "--"
sign_text signs.ShiftLeft = codes "<<"
sign_text signs.ShiftRight = codes ">>"
sign_text signs.LessEqual = codes "<="
sign_text signs.GreaterEqual = codes ">="
sign_text signs.Equal = codes "=="
sign_text signs.NotEqual = codes "!="
sign_text signs.AndAnd = codes "&&"
sign_text signs.OrOr = codes "||"
sign_text signs.StarAssign = codes "*="
sign_text signs.SlashAssign = codes "/="
sign_text signs.PercentAssign = codes "%="
sign_text signs.PlusAssign = codes "+="
sign_text signs.MinusAssign = codes "-="
sign_text signs.AmpersandAssign = codes "&="
sign_text signs.CaretAssign = codes "^="
sign_text signs.BarAssign = codes "|="
sign_text signs.OpenBracket = codes "["
sign_text signs.CloseBracket = codes "]"
sign_text signs.OpenParenthesis = codes "("
sign_text signs.CloseParenthesis = codes ")"
sign_text signs.OpenBrace = codes "{"
sign_text signs.CloseBrace = codes "}"
sign_text signs.Dot = codes "."
sign_text signs.Ampersand = codes "&"
sign_text signs.Star = codes "*"
sign_text signs.Plus = codes "+"
sign_text signs.Minus = codes "-"
sign_text signs.Tilde = codes "~"
sign_text signs.Exclamation = codes "!"
sign_text signs.Slash = codes "/"
sign_text signs.Percent = codes "%"
sign_text signs.Less = codes "<"
sign_text signs.Greater = codes ">"
sign_text signs.Caret = codes "^"
sign_text signs.Bar = codes "|"
sign_text signs.Question = codes "?"
sign_text signs.Colon = codes ":"
sign_text signs.Semicolon = codes ";"
sign_text signs.Assign = codes "="
sign_text signs.Comma = codes ","

-- every sign, those of more bytes first
abbrev pub all_signs : List Sign
all_signs = signs.ShiftLeftAssign ∷ signs.ShiftRightAssign ∷ signs.Arrow ∷ signs.Increment ∷
    signs.Decrement ∷ signs.ShiftLeft ∷ signs.ShiftRight ∷ signs.LessEqual ∷ signs.GreaterEqual ∷
    signs.Equal ∷ signs.NotEqual ∷ signs.AndAnd ∷ signs.OrOr ∷ signs.StarAssign ∷ signs.SlashAssign ∷
    signs.PercentAssign ∷ signs.PlusAssign ∷ signs.MinusAssign ∷ signs.AmpersandAssign ∷
    signs.CaretAssign ∷ signs.BarAssign ∷ signs.OpenBracket ∷ signs.CloseBracket ∷ signs.OpenParenthesis ∷
    signs.CloseParenthesis ∷ signs.OpenBrace ∷ signs.CloseBrace ∷ signs.Dot ∷ signs.Ampersand ∷
    signs.Star ∷ signs.Plus ∷ signs.Minus ∷ signs.Tilde ∷ signs.Exclamation ∷ signs.Slash ∷ signs.Percent ∷
    signs.Less ∷ signs.Greater ∷ signs.Caret ∷ signs.Bar ∷ signs.Question ∷ signs.Colon ∷ signs.Semicolon ∷
    signs.Assign ∷ signs.Comma ∷ []

-- the bytes begin with the sign
abbrev pub begins_with : List ℕ → Sign → Bool
begins_with bytes sign = starts_with nat_eq bytes (sign_text sign)

-- the sign at the prefix of the bytes
unfoldable pub sign_at : List ℕ → Option Sign
sign_at bytes = find (λ s. begins_with bytes s) all_signs

-- the bytes begin with this sign and with no longer one (6.4, paragraph 4)
abbrev pub IsLongest : List ℕ → Sign → Type 0
IsLongest bytes s = (begins_with bytes s ≡ true) ×
    ((z : Sign) → begins_with bytes z ≡ true → length (sign_text z) ≤ length (sign_text s))
