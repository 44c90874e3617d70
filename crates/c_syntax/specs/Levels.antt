-- What the signs and words of the grammar do.
use Rattle.std.specs.Prelude.{ℕ, Bool, true, false, List, [], ◌∷◌, Option, Some, None}
use Rattle.c_lexer.specs.declared.token.Sign.{Sign}
use Rattle.c_lexer.specs.declared.token.Sign.TheVariants as signs
use Rattle.c_lexer.specs.declared.token.Word.{Word}
use Rattle.c_lexer.specs.declared.token.Word.TheVariants as words
use Rattle.c_lexer.specs.declared.token.Kind.{Kind}
use Rattle.c_lexer.specs.declared.token.Kind.TheVariants as kinds
use Rattle.c_lexer.specs.declared.token.Token.{Token}

-- the level of an operator between two operands, from the loosest (C11 6.5.5 to 6.5.14 and 6.5.17)
abbrev pub level_of : Sign → Option ℕ
level_of signs.Comma = Some 1
level_of signs.OrOr = Some 4
level_of signs.AndAnd = Some 5
level_of signs.Bar = Some 6
level_of signs.Caret = Some 7
level_of signs.Ampersand = Some 8
level_of signs.Equal = Some 9
level_of signs.NotEqual = Some 9
level_of signs.Less = Some 10
level_of signs.Greater = Some 10
level_of signs.LessEqual = Some 10
level_of signs.GreaterEqual = Some 10
level_of signs.ShiftLeft = Some 11
level_of signs.ShiftRight = Some 11
level_of signs.Plus = Some 12
level_of signs.Minus = Some 12
level_of signs.Star = Some 13
level_of signs.Slash = Some 13
level_of signs.Percent = Some 13
level_of _ = None

-- C11 6.5.16
abbrev pub is_assignment : Sign → Bool
is_assignment signs.Assign = true
is_assignment signs.StarAssign = true
is_assignment signs.SlashAssign = true
is_assignment signs.PercentAssign = true
is_assignment signs.PlusAssign = true
is_assignment signs.MinusAssign = true
is_assignment signs.ShiftLeftAssign = true
is_assignment signs.ShiftRightAssign = true
is_assignment signs.AmpersandAssign = true
is_assignment signs.CaretAssign = true
is_assignment signs.BarAssign = true
is_assignment _ = false

-- C11 6.5.3
abbrev pub is_prefix : Sign → Bool
is_prefix signs.Increment = true
is_prefix signs.Decrement = true
is_prefix signs.Ampersand = true
is_prefix signs.Star = true
is_prefix signs.Plus = true
is_prefix signs.Minus = true
is_prefix signs.Tilde = true
is_prefix signs.Exclamation = true
is_prefix _ = false

-- C11 6.5.2.4
abbrev pub is_postfix : Sign → Bool
is_postfix signs.Increment = true
is_postfix signs.Decrement = true
is_postfix _ = false

-- the words that a type is written with (C11 6.7.2 and 6.7.3)
abbrev pub is_type_word : Word → Bool
is_type_word words.Void = true
is_type_word words.Char = true
is_type_word words.Short = true
is_type_word words.Int = true
is_type_word words.Long = true
is_type_word words.Signed = true
is_type_word words.Unsigned = true
is_type_word words.Struct = true
is_type_word words.Const = true
is_type_word _ = false

abbrev pub is_type_kind : Kind → Bool
is_type_kind (kinds.Word w) = is_type_word w
is_type_kind _ = false

-- the tokens begin with a word of a type
abbrev pub begins_type : List Token → Bool
begins_type [] = false
begins_type (t ∷ ts) = is_type_kind t.kind

abbrev is_open : Sign → Bool
is_open signs.OpenParenthesis = true
is_open _ = false

abbrev pub opens : Kind → List Token → Bool
opens (kinds.Sign signs.OpenParenthesis) ts = begins_type ts
opens _ ts = false

-- they begin with a bracket and a word of a type
abbrev pub opens_type : List Token → Bool
opens_type [] = false
opens_type (t ∷ ts) = opens t.kind ts

abbrev pub is_else : Kind → Bool
is_else (kinds.Word words.Else) = true
is_else _ = false

-- they begin with an else
abbrev pub begins_else : List Token → Bool
begins_else [] = false
begins_else (t ∷ ts) = is_else t.kind

abbrev pub is_void : Kind → Bool
is_void (kinds.Word words.Void) = true
is_void _ = false

abbrev pub is_close : Kind → Bool
is_close (kinds.Sign signs.CloseParenthesis) = true
is_close _ = false

abbrev closes : List Token → Bool
closes [] = false
closes (t ∷ ts) = is_close t.kind

abbrev pub void_closes : Bool → List Token → Bool
void_closes true ts = closes ts
void_closes false ts = false

-- they begin with the word void and a closing bracket
abbrev pub lone_void : List Token → Bool
lone_void [] = false
lone_void (t ∷ ts) = void_closes (is_void t.kind) ts

-- the offset of the first token
abbrev pub from_of : List Token → ℕ
from_of [] = 0
from_of (t ∷ ts) = t.from
