-- What tokens begin and end phrases.
use Rattle.std.proofs.Common.{◌≡◌, ℕ, ◌<◌, ◌≤◌, suc, zero, Bool, true, false, List, [], ◌∷◌, Option, Some, None, refl, ap, sym, subst, ◌∙◌, arith}
use Rattle.c_lexer.specs.declared.token.Sign.{Sign}
use Rattle.c_lexer.specs.declared.token.Sign.TheVariants as signs
use Rattle.c_lexer.specs.declared.token.Word.{Word}
use Rattle.c_lexer.specs.declared.token.Word.TheVariants as words
use Rattle.c_lexer.specs.declared.token.Kind.{Kind}
use Rattle.c_lexer.specs.declared.token.Kind.TheVariants as kinds
use Rattle.c_lexer.specs.declared.token.Token.{Token}
use Rattle.c_syntax.specs.declared.specifier.Core.{Core}
use Rattle.c_syntax.specs.declared.specifier.Core.TheVariants as cores
use Rattle.c_syntax.specs.Syntax.{Expr, Exprs}
use Rattle.c_syntax.specs.Levels.{level_of, is_assignment, is_prefix, is_postfix, is_type_word, is_type_kind, begins_type}
use Rattle.c_syntax.specs.TypeWords.{with_core}
use Rattle.c_syntax.specs.Grammar as g
use Rattle.c_syntax.specs.Grammar.{IsPostfix, IsUnary, IsExpr, IsArgs, IsTypeName, IsWords, IsSpecs, IsConsts, IsDeclr, IsDirect, Label, Named, Nameless}
use Rattle.c_parser_moves.specs.declared.mark.Punctuator.{Punctuator}
use Rattle.c_parser_moves.specs.declared.mark.Punctuator.TheVariants as marks
use Rattle.c_parser_moves.specs.declared.mark.After.{After}
use Rattle.c_parser_moves.specs.declared.mark.After.TheVariants as afters
use Rattle.c_parser_moves.specs.declared.mark.Begin.TheVariants as begins
use Rattle.c_parser_moves.specs.Marks.{mark_of, mark_at, sign_mark, after_sign, after_of, begin_of}
use Rattle.c_parser_actions.proofs.MovesExpr.{Pops}

-- the tables of signs
pub after_level : (x : Sign) (l : ℕ) → level_of x ≡ Some l → after_sign x ≡ afters.Binary l x
after_level signs.Comma l h = cc
after_level _ l h = cc

pub after_assigns : (x : Sign) → is_assignment x ≡ true → after_sign x ≡ afters.Assign x
after_assigns signs.Assign h = cc
after_assigns _ h = cc

pub after_steps : (x : Sign) → is_postfix x ≡ true → after_sign x ≡ afters.Postfix x
after_steps signs.Increment h = cc
after_steps _ h = cc

pub of_sign : (k : Kind) (x : Sign) (c : After) → k ≡ kinds.Sign x → after_sign x ≡ c → after_of k ≡ c
of_sign k x c e h = rw (e, h) refl

pub low_level : (x : Sign) (l : ℕ) → level_of x ≡ Some l → l ≤ 13
low_level signs.Comma l h = let e : 1 ≡ l = cc in omega arith
low_level signs.OrOr l h = let e : 4 ≡ l = cc in omega arith
low_level signs.AndAnd l h = let e : 5 ≡ l = cc in omega arith
low_level signs.Bar l h = let e : 6 ≡ l = cc in omega arith
low_level signs.Caret l h = let e : 7 ≡ l = cc in omega arith
low_level signs.Ampersand l h = let e : 8 ≡ l = cc in omega arith
low_level signs.Equal l h = let e : 9 ≡ l = cc in omega arith
low_level signs.NotEqual l h = let e : 9 ≡ l = cc in omega arith
low_level signs.Less l h = let e : 10 ≡ l = cc in omega arith
low_level signs.Greater l h = let e : 10 ≡ l = cc in omega arith
low_level signs.LessEqual l h = let e : 10 ≡ l = cc in omega arith
low_level signs.GreaterEqual l h = let e : 10 ≡ l = cc in omega arith
low_level signs.ShiftLeft l h = let e : 11 ≡ l = cc in omega arith
low_level signs.ShiftRight l h = let e : 11 ≡ l = cc in omega arith
low_level signs.Plus l h = let e : 12 ≡ l = cc in omega arith
low_level signs.Minus l h = let e : 12 ≡ l = cc in omega arith
low_level signs.Star l h = let e : 13 ≡ l = cc in omega arith
low_level signs.Slash l h = let e : 13 ≡ l = cc in omega arith
low_level signs.Percent l h = let e : 13 ≡ l = cc in omega arith
low_level _ l h = absurd cc

-- the level at which what goes on after an expression of level l is no part of it
abbrev pub stop : ℕ → ℕ
stop (suc (suc zero)) = 2
stop (suc (suc (suc zero))) = 3
stop l = suc l

pub stop_low : (l : ℕ) → stop l ≤ suc l
stop_low zero = omega arith
stop_low (suc zero) = omega arith
stop_low (suc (suc zero)) = omega arith
stop_low (suc (suc (suc zero))) = omega arith
stop_low (suc (suc (suc (suc l)))) = omega arith

pub stop_next : (l : ℕ) → stop l ≤ stop (suc l)
stop_next zero = omega arith
stop_next (suc zero) = omega arith
stop_next (suc (suc zero)) = omega arith
stop_next (suc (suc (suc zero))) = omega arith
stop_next (suc (suc (suc (suc l)))) = omega arith

abbrev HasLeft : Option ℕ → Type 0
HasLeft None = Unit {0}
HasLeft (Some l) = l < stop l

sign_left : (x : Sign) → HasLeft (level_of x)
sign_left signs.Comma = omega arith
sign_left signs.OrOr = omega arith
sign_left signs.AndAnd = omega arith
sign_left signs.Bar = omega arith
sign_left signs.Caret = omega arith
sign_left signs.Ampersand = omega arith
sign_left signs.Equal = omega arith
sign_left signs.NotEqual = omega arith
sign_left signs.Less = omega arith
sign_left signs.Greater = omega arith
sign_left signs.LessEqual = omega arith
sign_left signs.GreaterEqual = omega arith
sign_left signs.ShiftLeft = omega arith
sign_left signs.ShiftRight = omega arith
sign_left signs.Plus = omega arith
sign_left signs.Minus = omega arith
sign_left signs.Star = omega arith
sign_left signs.Slash = omega arith
sign_left signs.Percent = omega arith
sign_left _ = tt

pub left_level : (x : Sign) (l : ℕ) → level_of x ≡ Some l → l < stop l
left_level x l h = subst HasLeft h (sign_left x)

pub pops_more : (a : After) {m n : ℕ} → m ≤ n → Pops m a → Pops n a
pops_more (afters.Binary l s) h p = omega arith
pops_more (afters.Assign s) h p = omega arith
pops_more afters.Question h p = omega arith
pops_more afters.Index h p = omega arith
pops_more afters.Call h p = omega arith
pops_more afters.Dot h p = omega arith
pops_more afters.Arrow h p = omega arith
pops_more (afters.Postfix s) h p = omega arith
pops_more afters.Other h p = tt

-- what an expression begins with
abbrev sign_starts : Sign → Bool
sign_starts signs.OpenParenthesis = true
sign_starts s = is_prefix s

abbrev word_starts : Word → Bool
word_starts words.Sizeof = true
word_starts _ = false

abbrev kind_starts : Kind → Bool
kind_starts (kinds.Sign s) = sign_starts s
kind_starts (kinds.Word w) = word_starts w
kind_starts _ = true

abbrev pub starts : List Token → Bool
starts [] = false
starts (t ∷ ts) = kind_starts t.kind

prefix_starts : (s : Sign) → is_prefix s ≡ true → sign_starts s ≡ true
prefix_starts signs.OpenParenthesis h = refl
prefix_starts _ h = h

-- the marks that an expression may begin with
abbrev mid : Punctuator → Bool
mid marks.Open = true
mid marks.Star = true
mid marks.Other = true
mid _ = false

sign_mid : (s : Sign) → sign_starts s ≡ true → mid (sign_mark s) ≡ true
sign_mid signs.OpenParenthesis h = refl
sign_mid signs.Star h = refl
sign_mid signs.CloseParenthesis h = cc
sign_mid signs.OpenBracket h = cc
sign_mid signs.CloseBracket h = cc
sign_mid signs.OpenBrace h = cc
sign_mid signs.CloseBrace h = cc
sign_mid signs.Comma h = cc
sign_mid signs.Colon h = cc
sign_mid signs.Semicolon h = cc
sign_mid signs.Assign h = cc
sign_mid _ h = refl

kind_mid : (k : Kind) → kind_starts k ≡ true → mid (mark_of k) ≡ true
kind_mid (kinds.Sign s) h = sign_mid s h
kind_mid _ h = refl

pub starts_mid : (ts : List Token) → starts ts ≡ true → mid (mark_at ts) ≡ true
starts_mid [] h = cc
starts_mid (t ∷ ts) h = kind_mid t.kind h

-- an expression begins with none of these
pub starts_not : (ts : List Token) (c : Punctuator) → starts ts ≡ true → mid c ≡ false → mark_at ts ≡ c → ⊥
starts_not ts c h k e = absurd (let x : true ≡ false = sym (starts_mid ts h) ∙ ap mid e ∙ k in cc)

word_no_type : (w : Word) → word_starts w ≡ true → is_type_word w ≡ false
word_no_type words.Sizeof h = refl
word_no_type _ h = cc

kind_no_type : (k : Kind) → kind_starts k ≡ true → is_type_kind k ≡ false
kind_no_type (kinds.Word w) h = word_no_type w h
kind_no_type _ h = refl

pub starts_no_type : (ts : List Token) → starts ts ≡ true → begins_type ts ≡ false
starts_no_type [] h = refl
starts_no_type (t ∷ ts) h = kind_no_type t.kind h

sign_other : (s : Sign) → sign_starts s ≡ true → begin_of (kinds.Sign s) ≡ begins.Other
sign_other signs.Semicolon h = cc
sign_other signs.OpenBrace h = cc
sign_other _ h = refl

word_other : (w : Word) → word_starts w ≡ true → begin_of (kinds.Word w) ≡ begins.Other
word_other words.Sizeof h = refl
word_other _ h = cc

pub kind_other : (k : Kind) → kind_starts k ≡ true → begin_of k ≡ begins.Other
kind_other (kinds.Sign s) h = sign_other s h
kind_other (kinds.Word w) h = word_other w h
kind_other _ h = refl

postfix_starts : {ts rest : List Token} {e : Expr} → IsPostfix ts e rest → starts ts ≡ true
postfix_starts (g.name e) = rw e refl
postfix_starts (g.number e) = rw e refl
postfix_starts (g.char e) = rw e refl
postfix_starts (g.text e) = rw e refl
postfix_starts (g.group e d h) = rw e refl
postfix_starts (g.index d e c h) = postfix_starts d
postfix_starts (g.call_none d e h) = postfix_starts d
postfix_starts (g.call d e c h) = postfix_starts d
postfix_starts (g.member d e h) = postfix_starts d
postfix_starts (g.arrow d e h) = postfix_starts d
postfix_starts (g.step d e h) = postfix_starts d

unary_starts : {ts rest : List Token} {e : Expr} → IsUnary ts e rest → starts ts ≡ true
unary_starts (g.postfix d) = postfix_starts d
unary_starts (g.prefix {s = s} e h d) = rw e (prefix_starts s h)
unary_starts (g.sizeof e h d) = rw e refl
unary_starts (g.sizeof_type e h d k) = rw e refl
unary_starts (g.cast e d h c) = rw e refl

pub expr_starts : {l : ℕ} {ts rest : List Token} {e : Expr} → IsExpr l ts e rest → starts ts ≡ true
expr_starts (g.unary d) = unary_starts d
expr_starts (g.tighter d) = expr_starts d
expr_starts (g.binary d e h c) = expr_starts d
expr_starts (g.assign d e h c) = unary_starts d
expr_starts (g.cond d e c h b) = expr_starts d

pub args_start : {ts rest : List Token} {xs : Exprs} → IsArgs ts xs rest → starts ts ≡ true
args_start (g.first_arg d) = expr_starts d
args_start (g.more_args d e c) = args_start d

-- what a type begins with
absent_type : (w : Word) (d : Core) → with_core cores.Absent w ≡ Some d → is_type_word w ≡ true
absent_type words.Void d h = refl
absent_type words.Char d h = refl
absent_type words.Short d h = refl
absent_type words.Int d h = refl
absent_type words.Long d h = refl
absent_type words.Signed d h = refl
absent_type words.Unsigned d h = refl
absent_type words.Struct d h = refl
absent_type words.Const d h = refl
absent_type _ d h = cc

short_type : (w : Word) (d : Core) → with_core cores.Short w ≡ Some d → is_type_word w ≡ true
short_type words.Int d h = refl
short_type _ d h = cc

int_type : (w : Word) (d : Core) → with_core cores.Int w ≡ Some d → is_type_word w ≡ true
int_type words.Short d h = refl
int_type words.Long d h = refl
int_type _ d h = cc

long_type : (w : Word) (d : Core) → with_core cores.Long w ≡ Some d → is_type_word w ≡ true
long_type words.Int d h = refl
long_type _ d h = cc

pub core_is_type : (c : Core) (w : Word) (d : Core) → with_core c w ≡ Some d → is_type_word w ≡ true
core_is_type cores.Absent w d h = absent_type w d h
core_is_type cores.Short w d h = short_type w d h
core_is_type cores.Int w d h = int_type w d h
core_is_type cores.Long w d h = long_type w d h
core_is_type cores.Void w d h = cc
core_is_type cores.Char w d h = cc
core_is_type cores.ShortInt w d h = cc
core_is_type cores.LongInt w d h = cc
core_is_type (cores.Struct n) w d h = cc
