-- What tokens are, by what the parser tells them apart by.
use Rattle.std.proofs.Common.{◌≡◌, ℕ, true, Some, refl, subst}
use Rattle.c_lexer.specs.declared.token.Sign.{Sign}
use Rattle.c_lexer.specs.declared.token.Sign.TheVariants as signs
use Rattle.c_lexer.specs.declared.token.Word.{Word}
use Rattle.c_lexer.specs.declared.token.Word.TheVariants as words
use Rattle.c_lexer.specs.declared.token.Kind.{Kind}
use Rattle.c_lexer.specs.declared.token.Kind.TheVariants as kinds
use Rattle.c_syntax.specs.Levels.{level_of, is_assignment, is_postfix}
use Rattle.c_parser_moves.specs.declared.mark.Punctuator.{Punctuator}
use Rattle.c_parser_moves.specs.declared.mark.Punctuator.TheVariants as marks
use Rattle.c_parser_moves.specs.declared.mark.After.{After}
use Rattle.c_parser_moves.specs.declared.mark.After.TheVariants as afters
use Rattle.c_parser_moves.specs.declared.mark.Begin.{Begin}
use Rattle.c_parser_moves.specs.declared.mark.Begin.TheVariants as begins
use Rattle.c_parser_moves.specs.Marks.{mark_of, sign_mark, after_sign, after_of, begin_of}

-- ---- signs that end or divide constructs

abbrev Marked : Kind → Punctuator → Type 0
Marked k marks.Open = k ≡ kinds.Sign signs.OpenParenthesis
Marked k marks.Close = k ≡ kinds.Sign signs.CloseParenthesis
Marked k marks.OpenBracket = k ≡ kinds.Sign signs.OpenBracket
Marked k marks.CloseBracket = k ≡ kinds.Sign signs.CloseBracket
Marked k marks.OpenBrace = k ≡ kinds.Sign signs.OpenBrace
Marked k marks.CloseBrace = k ≡ kinds.Sign signs.CloseBrace
Marked k marks.Comma = k ≡ kinds.Sign signs.Comma
Marked k marks.Colon = k ≡ kinds.Sign signs.Colon
Marked k marks.Semicolon = k ≡ kinds.Sign signs.Semicolon
Marked k marks.Star = k ≡ kinds.Sign signs.Star
Marked k marks.Assign = k ≡ kinds.Sign signs.Assign
Marked k marks.Other = Unit {0}

sign_marked : (x : Sign) → Marked (kinds.Sign x) (sign_mark x)
sign_marked signs.OpenParenthesis = refl
sign_marked signs.CloseParenthesis = refl
sign_marked signs.OpenBracket = refl
sign_marked signs.CloseBracket = refl
sign_marked signs.OpenBrace = refl
sign_marked signs.CloseBrace = refl
sign_marked signs.Comma = refl
sign_marked signs.Colon = refl
sign_marked signs.Semicolon = refl
sign_marked signs.Star = refl
sign_marked signs.Assign = refl
sign_marked _ = tt

marked : (k : Kind) → Marked k (mark_of k)
marked (kinds.Sign x) = sign_marked x
marked _ = tt

pub is_Open : (k : Kind) → mark_of k ≡ marks.Open → k ≡ kinds.Sign signs.OpenParenthesis
is_Open k h = subst (Marked k) h (marked k)

pub is_Close : (k : Kind) → mark_of k ≡ marks.Close → k ≡ kinds.Sign signs.CloseParenthesis
is_Close k h = subst (Marked k) h (marked k)

pub is_OpenBracket : (k : Kind) → mark_of k ≡ marks.OpenBracket → k ≡ kinds.Sign signs.OpenBracket
is_OpenBracket k h = subst (Marked k) h (marked k)

pub is_CloseBracket : (k : Kind) → mark_of k ≡ marks.CloseBracket → k ≡ kinds.Sign signs.CloseBracket
is_CloseBracket k h = subst (Marked k) h (marked k)

pub is_OpenBrace : (k : Kind) → mark_of k ≡ marks.OpenBrace → k ≡ kinds.Sign signs.OpenBrace
is_OpenBrace k h = subst (Marked k) h (marked k)

pub is_CloseBrace : (k : Kind) → mark_of k ≡ marks.CloseBrace → k ≡ kinds.Sign signs.CloseBrace
is_CloseBrace k h = subst (Marked k) h (marked k)

pub is_Comma : (k : Kind) → mark_of k ≡ marks.Comma → k ≡ kinds.Sign signs.Comma
is_Comma k h = subst (Marked k) h (marked k)

pub is_Colon : (k : Kind) → mark_of k ≡ marks.Colon → k ≡ kinds.Sign signs.Colon
is_Colon k h = subst (Marked k) h (marked k)

pub is_Semicolon : (k : Kind) → mark_of k ≡ marks.Semicolon → k ≡ kinds.Sign signs.Semicolon
is_Semicolon k h = subst (Marked k) h (marked k)

pub is_Star : (k : Kind) → mark_of k ≡ marks.Star → k ≡ kinds.Sign signs.Star
is_Star k h = subst (Marked k) h (marked k)

pub is_Assign : (k : Kind) → mark_of k ≡ marks.Assign → k ≡ kinds.Sign signs.Assign
is_Assign k h = subst (Marked k) h (marked k)

-- ---- what stands after an operand

abbrev Follows : Kind → After → Type 0
Follows k (afters.Binary l s) = (k ≡ kinds.Sign s) × (level_of s ≡ Some l)
Follows k (afters.Assign s) = (k ≡ kinds.Sign s) × (is_assignment s ≡ true)
Follows k afters.Question = k ≡ kinds.Sign signs.Question
Follows k afters.Index = k ≡ kinds.Sign signs.OpenBracket
Follows k afters.Call = k ≡ kinds.Sign signs.OpenParenthesis
Follows k afters.Dot = k ≡ kinds.Sign signs.Dot
Follows k afters.Arrow = k ≡ kinds.Sign signs.Arrow
Follows k (afters.Postfix s) = (k ≡ kinds.Sign s) × (is_postfix s ≡ true)
Follows k afters.Other = Unit {0}

sign_follows : (x : Sign) → Follows (kinds.Sign x) (after_sign x)
sign_follows signs.Comma = (refl, refl)
sign_follows signs.Assign = (refl, refl)
sign_follows signs.StarAssign = (refl, refl)
sign_follows signs.SlashAssign = (refl, refl)
sign_follows signs.PercentAssign = (refl, refl)
sign_follows signs.PlusAssign = (refl, refl)
sign_follows signs.MinusAssign = (refl, refl)
sign_follows signs.ShiftLeftAssign = (refl, refl)
sign_follows signs.ShiftRightAssign = (refl, refl)
sign_follows signs.AmpersandAssign = (refl, refl)
sign_follows signs.CaretAssign = (refl, refl)
sign_follows signs.BarAssign = (refl, refl)
sign_follows signs.OrOr = (refl, refl)
sign_follows signs.AndAnd = (refl, refl)
sign_follows signs.Bar = (refl, refl)
sign_follows signs.Caret = (refl, refl)
sign_follows signs.Ampersand = (refl, refl)
sign_follows signs.Equal = (refl, refl)
sign_follows signs.NotEqual = (refl, refl)
sign_follows signs.Less = (refl, refl)
sign_follows signs.Greater = (refl, refl)
sign_follows signs.LessEqual = (refl, refl)
sign_follows signs.GreaterEqual = (refl, refl)
sign_follows signs.ShiftLeft = (refl, refl)
sign_follows signs.ShiftRight = (refl, refl)
sign_follows signs.Plus = (refl, refl)
sign_follows signs.Minus = (refl, refl)
sign_follows signs.Star = (refl, refl)
sign_follows signs.Slash = (refl, refl)
sign_follows signs.Percent = (refl, refl)
sign_follows signs.Increment = (refl, refl)
sign_follows signs.Decrement = (refl, refl)
sign_follows signs.Question = refl
sign_follows signs.OpenBracket = refl
sign_follows signs.OpenParenthesis = refl
sign_follows signs.Dot = refl
sign_follows signs.Arrow = refl
sign_follows _ = tt

follows : (k : Kind) → Follows k (after_of k)
follows (kinds.Sign x) = sign_follows x
follows _ = tt

pub is_binary : (k : Kind) (x : Sign) (l : ℕ) → after_of k ≡ afters.Binary l x → (k ≡ kinds.Sign x) × (level_of x ≡ Some l)
is_binary k x l h = subst (Follows k) h (follows k)

pub is_assign : (k : Kind) (x : Sign) → after_of k ≡ afters.Assign x → (k ≡ kinds.Sign x) × (is_assignment x ≡ true)
is_assign k x h = subst (Follows k) h (follows k)

pub is_step : (k : Kind) (x : Sign) → after_of k ≡ afters.Postfix x → (k ≡ kinds.Sign x) × (is_postfix x ≡ true)
is_step k x h = subst (Follows k) h (follows k)

pub is_Question : (k : Kind) → after_of k ≡ afters.Question → k ≡ kinds.Sign signs.Question
is_Question k h = subst (Follows k) h (follows k)

pub is_Index : (k : Kind) → after_of k ≡ afters.Index → k ≡ kinds.Sign signs.OpenBracket
is_Index k h = subst (Follows k) h (follows k)

pub is_Call : (k : Kind) → after_of k ≡ afters.Call → k ≡ kinds.Sign signs.OpenParenthesis
is_Call k h = subst (Follows k) h (follows k)

pub is_Dot : (k : Kind) → after_of k ≡ afters.Dot → k ≡ kinds.Sign signs.Dot
is_Dot k h = subst (Follows k) h (follows k)

pub is_Arrow : (k : Kind) → after_of k ≡ afters.Arrow → k ≡ kinds.Sign signs.Arrow
is_Arrow k h = subst (Follows k) h (follows k)

-- ---- what begins a statement

abbrev Begins : Kind → Begin → Type 0
Begins k begins.Empty = k ≡ kinds.Sign signs.Semicolon
Begins k begins.Block = k ≡ kinds.Sign signs.OpenBrace
Begins k begins.If = k ≡ kinds.Word words.If
Begins k begins.While = k ≡ kinds.Word words.While
Begins k begins.Do = k ≡ kinds.Word words.Do
Begins k begins.For = k ≡ kinds.Word words.For
Begins k begins.Break = k ≡ kinds.Word words.Break
Begins k begins.Continue = k ≡ kinds.Word words.Continue
Begins k begins.Return = k ≡ kinds.Word words.Return
Begins k begins.Other = Unit {0}

sign_begins : (x : Sign) → Begins (kinds.Sign x) (begin_of (kinds.Sign x))
sign_begins signs.Semicolon = refl
sign_begins signs.OpenBrace = refl
sign_begins _ = tt

word_begins : (w : Word) → Begins (kinds.Word w) (begin_of (kinds.Word w))
word_begins words.If = refl
word_begins words.While = refl
word_begins words.Do = refl
word_begins words.For = refl
word_begins words.Break = refl
word_begins words.Continue = refl
word_begins words.Return = refl
word_begins _ = tt

begun : (k : Kind) → Begins k (begin_of k)
begun (kinds.Sign x) = sign_begins x
begun (kinds.Word w) = word_begins w
begun _ = tt

pub is_If : (k : Kind) → begin_of k ≡ begins.If → k ≡ kinds.Word words.If
is_If k h = subst (Begins k) h (begun k)

pub is_While : (k : Kind) → begin_of k ≡ begins.While → k ≡ kinds.Word words.While
is_While k h = subst (Begins k) h (begun k)

pub is_Do : (k : Kind) → begin_of k ≡ begins.Do → k ≡ kinds.Word words.Do
is_Do k h = subst (Begins k) h (begun k)

pub is_For : (k : Kind) → begin_of k ≡ begins.For → k ≡ kinds.Word words.For
is_For k h = subst (Begins k) h (begun k)

pub is_Break : (k : Kind) → begin_of k ≡ begins.Break → k ≡ kinds.Word words.Break
is_Break k h = subst (Begins k) h (begun k)

pub is_Continue : (k : Kind) → begin_of k ≡ begins.Continue → k ≡ kinds.Word words.Continue
is_Continue k h = subst (Begins k) h (begun k)

pub is_Return : (k : Kind) → begin_of k ≡ begins.Return → k ≡ kinds.Word words.Return
is_Return k h = subst (Begins k) h (begun k)

pub is_Empty : (k : Kind) → begin_of k ≡ begins.Empty → k ≡ kinds.Sign signs.Semicolon
is_Empty k h = subst (Begins k) h (begun k)

pub is_Block : (k : Kind) → begin_of k ≡ begins.Block → k ≡ kinds.Sign signs.OpenBrace
is_Block k h = subst (Begins k) h (begun k)
