-- What the parser tells tokens apart by.
use Rattle.std.specs.Prelude.{◌≤◌, List, [], ◌∷◌}
use Rattle.c_lexer.specs.declared.token.Sign.{Sign}
use Rattle.c_lexer.specs.declared.token.Sign.TheVariants as signs
use Rattle.c_lexer.specs.declared.token.Word.{Word}
use Rattle.c_lexer.specs.declared.token.Word.TheVariants as words
use Rattle.c_lexer.specs.declared.token.Kind.{Kind}
use Rattle.c_lexer.specs.declared.token.Kind.TheVariants as kinds
use Rattle.c_lexer.specs.declared.token.Token.{Token}
use Rattle.c_parser_moves.specs.declared.mark.Punctuator.{Punctuator}
use Rattle.c_parser_moves.specs.declared.mark.Punctuator.TheVariants as marks
use Rattle.c_parser_moves.specs.declared.mark.After.{After}
use Rattle.c_parser_moves.specs.declared.mark.After.TheVariants as afters
use Rattle.c_parser_moves.specs.declared.mark.Begin.{Begin}
use Rattle.c_parser_moves.specs.declared.mark.Begin.TheVariants as begins

abbrev pub sign_mark : Sign → Punctuator
sign_mark signs.OpenParenthesis = marks.Open
sign_mark signs.CloseParenthesis = marks.Close
sign_mark signs.OpenBracket = marks.OpenBracket
sign_mark signs.CloseBracket = marks.CloseBracket
sign_mark signs.OpenBrace = marks.OpenBrace
sign_mark signs.CloseBrace = marks.CloseBrace
sign_mark signs.Comma = marks.Comma
sign_mark signs.Colon = marks.Colon
sign_mark signs.Semicolon = marks.Semicolon
sign_mark signs.Star = marks.Star
sign_mark signs.Assign = marks.Assign
sign_mark _ = marks.Other

-- the sign that ends or divides constructs
abbrev pub mark_of : Kind → Punctuator
mark_of (kinds.Sign s) = sign_mark s
mark_of _ = marks.Other

abbrev pub mark_at : List Token → Punctuator
mark_at [] = marks.Other
mark_at (t ∷ ts) = mark_of t.kind

-- what a sign does after an operand
abbrev pub after_sign : Sign → After
after_sign signs.Comma = afters.Binary 1 signs.Comma
after_sign signs.Assign = afters.Assign signs.Assign
after_sign signs.StarAssign = afters.Assign signs.StarAssign
after_sign signs.SlashAssign = afters.Assign signs.SlashAssign
after_sign signs.PercentAssign = afters.Assign signs.PercentAssign
after_sign signs.PlusAssign = afters.Assign signs.PlusAssign
after_sign signs.MinusAssign = afters.Assign signs.MinusAssign
after_sign signs.ShiftLeftAssign = afters.Assign signs.ShiftLeftAssign
after_sign signs.ShiftRightAssign = afters.Assign signs.ShiftRightAssign
after_sign signs.AmpersandAssign = afters.Assign signs.AmpersandAssign
after_sign signs.CaretAssign = afters.Assign signs.CaretAssign
after_sign signs.BarAssign = afters.Assign signs.BarAssign
after_sign signs.Question = afters.Question
after_sign signs.OrOr = afters.Binary 4 signs.OrOr
after_sign signs.AndAnd = afters.Binary 5 signs.AndAnd
after_sign signs.Bar = afters.Binary 6 signs.Bar
after_sign signs.Caret = afters.Binary 7 signs.Caret
after_sign signs.Ampersand = afters.Binary 8 signs.Ampersand
after_sign signs.Equal = afters.Binary 9 signs.Equal
after_sign signs.NotEqual = afters.Binary 9 signs.NotEqual
after_sign signs.Less = afters.Binary 10 signs.Less
after_sign signs.Greater = afters.Binary 10 signs.Greater
after_sign signs.LessEqual = afters.Binary 10 signs.LessEqual
after_sign signs.GreaterEqual = afters.Binary 10 signs.GreaterEqual
after_sign signs.ShiftLeft = afters.Binary 11 signs.ShiftLeft
after_sign signs.ShiftRight = afters.Binary 11 signs.ShiftRight
after_sign signs.Plus = afters.Binary 12 signs.Plus
after_sign signs.Minus = afters.Binary 12 signs.Minus
after_sign signs.Star = afters.Binary 13 signs.Star
after_sign signs.Slash = afters.Binary 13 signs.Slash
after_sign signs.Percent = afters.Binary 13 signs.Percent
after_sign signs.OpenBracket = afters.Index
after_sign signs.OpenParenthesis = afters.Call
after_sign signs.Dot = afters.Dot
after_sign signs.Arrow = afters.Arrow
after_sign signs.Increment = afters.Postfix signs.Increment
after_sign signs.Decrement = afters.Postfix signs.Decrement
after_sign _ = afters.Other

abbrev pub after_of : Kind → After
after_of (kinds.Sign s) = after_sign s
after_of _ = afters.Other

abbrev pub after_at : List Token → After
after_at [] = afters.Other
after_at (t ∷ ts) = after_of t.kind

abbrev sign_begin : Sign → Begin
sign_begin signs.Semicolon = begins.Empty
sign_begin signs.OpenBrace = begins.Block
sign_begin _ = begins.Other

abbrev word_begin : Word → Begin
word_begin words.If = begins.If
word_begin words.While = begins.While
word_begin words.Do = begins.Do
word_begin words.For = begins.For
word_begin words.Break = begins.Break
word_begin words.Continue = begins.Continue
word_begin words.Return = begins.Return
word_begin _ = begins.Other

-- what a token begins, where a statement is wanted
abbrev pub begin_of : Kind → Begin
begin_of (kinds.Sign s) = sign_begin s
begin_of (kinds.Word w) = word_begin w
begin_of _ = begins.Other

-- a sign between two operands has a level of at most 13
abbrev pub IsLow : After → Type 0
IsLow (afters.Binary l s) = l ≤ 13
IsLow _ = Unit {0}
