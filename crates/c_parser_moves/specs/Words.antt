-- What is read without a construct that stays open.
use Rattle.std.specs.Prelude.{◌≡◌, ℕ, zero, suc, Bool, true, false, List, [], ◌∷◌, Option, Some, None}
use Rattle.std.specs.Borrow.{Bor}
use Rattle.c_lexer.specs.declared.token.Word.TheVariants as words
use Rattle.c_lexer.specs.declared.token.Kind.{Kind}
use Rattle.c_lexer.specs.declared.token.Kind.TheVariants as kinds
use Rattle.c_lexer.specs.declared.token.Token.{Token}
use Rattle.c_syntax.specs.declared.declaration.Base.{Base}
use Rattle.c_syntax.specs.declared.specifier.Specifiers.{Specifiers}
use Rattle.c_syntax.specs.Levels.{begins_type}
use Rattle.c_syntax.specs.TypeWords.{no_words, with_word, with_tag, base_of}
use Rattle.c_parser_moves.specs.declared.mark.Punctuator.{Punctuator}
use Rattle.c_parser_moves.specs.declared.mark.Punctuator.TheVariants as marks
use Rattle.c_parser_moves.specs.Marks.{mark_of}
use Rattle.c_parser_moves.specs.declared.words.Took.{Took}
use Rattle.c_parser_moves.specs.declared.words.Took.TheVariants as tooks

-- what one more token does to the words of a type: no type has them, or it is none of them, or they go on,
-- where the flag says that struct wants its name
pub data Step : Type 0 where
  Refused : Step
  Ended : Specifiers → Step
  More : Bool → Specifiers → Step

abbrev pub step_of : Took → Specifiers → Step
step_of tooks.Refused s = Refused
step_of tooks.Ended s = Ended s
step_of (tooks.More p) s = More p s

-- the words became these, if any
abbrev pub Becomes : Option Specifiers → Specifiers → Bool → Specifiers → Type 0
Becomes None old b new = (b ≡ false) × (new ≡ old)
Becomes (Some s) old b new = (b ≡ true) × (new ≡ s)

abbrev pub tag_step : Option Specifiers → Step
tag_step None = Refused
tag_step (Some s) = More false s

abbrev pub storage_step : Bool → Bool → Specifiers → Step
storage_step false true s = Refused
storage_step _ _ s = More false s

abbrev pub word_step : Bool → Option Specifiers → Specifiers → Step
word_step top None r = Ended r
word_step top (Some s) r = storage_step top s.storage s

-- one more token of a type's words, of which the last may be struct
abbrev pub put_word : Kind → Bool → Bool → Specifiers → Step
put_word (kinds.Name n) top true r = tag_step (with_tag r n)
put_word _ top true r = Refused
put_word (kinds.Word words.Struct) top false r = More true r
put_word (kinds.Word w) top false r = word_step top (with_word r w) r
put_word _ top false r = Ended r

abbrev pub next_word : Step → List Token → (Bool → Specifiers → Option (Specifiers × List Token)) →
    Option (Specifiers × List Token)
next_word Refused all go = None
next_word (Ended r) all go = Some (r, all)
next_word (More p s) all go = go p s

-- the words of a type at the prefix of the tokens, and what is after them
abbrev pub take_words : Bool → Bool → Specifiers → List Token → Option (Specifiers × List Token)
take_words top true r [] = None
take_words top false r [] = Some (r, [])
take_words top p r (t ∷ ts) = next_word (put_word t.kind top p r) (t ∷ ts) (λ q s. take_words top q s ts)

abbrev pub with_next : Step → (Bool → Specifiers → ℕ) → ℕ
with_next Refused go = 0
with_next (Ended r) go = 0
with_next (More p s) go = suc (go p s)

-- how many tokens at the prefix are words of a type, whether or not a type has these words
abbrev pub words_taken : Bool → Bool → Specifiers → List Token → ℕ
words_taken top p r [] = 0
words_taken top p r (t ∷ ts) = with_next (put_word t.kind top p r) (λ q s. words_taken top q s ts)

abbrev pub with_rest : Option Base → List Token → Option (Base × List Token)
with_rest None ts = None
with_rest (Some b) ts = Some (b, ts)

abbrev pub based : Option (Specifiers × List Token) → Option (Base × List Token)
based None = None
based (Some (s, ts)) = with_rest (base_of s) ts

-- the type at the prefix of the tokens, and what is after it
unfoldable pub take_specs : Bool → List Token → Option (Base × List Token)
take_specs top ts = based (take_words top false no_words ts)

abbrev pub is_const : Kind → Bool
is_const (kinds.Word words.Const) = true
is_const _ = false

abbrev pub unless_const : Bool → List Token → List Token → List Token
unless_const true all ts = ts
unless_const false all ts = all

-- what is after the words const at the prefix
abbrev pub skip_consts : List Token → List Token
skip_consts [] = []
skip_consts (t ∷ ts) = unless_const (is_const t.kind) (t ∷ ts) (skip_consts ts)

abbrev pub at_mark : Punctuator → ℕ → List Token → (ℕ → List Token) → List Token
at_mark marks.OpenBracket n ts go = go (suc n)
at_mark marks.CloseBracket zero ts go = ts
at_mark marks.CloseBracket (suc n) ts go = go n
at_mark _ n ts go = go n

-- what follows the square bracket that closes, where n more are open
abbrev pub scan : ℕ → List Token → List Token
scan n [] = []
scan n (t ∷ ts) = at_mark (mark_of t.kind) n ts (λ m. scan m ts)

-- the square bracket before the tokens is that of annotations: a type follows the one that closes it
unfoldable pub lists : List Token → Bool
lists ts = begins_type (scan 0 ts)

-- the words that were read, and what is after them
abbrev pub WordsAre : Option (Specifiers × Bor (List Token)) → Option (Specifiers × List Token) → Type 0
WordsAre None r = r ≡ None
WordsAre (Some (s, ts)) r = r ≡ Some (s, ts.now)

-- the type that was read, and what is after it
abbrev pub SpecsAre : Option (Base × Bor (List Token)) → Option (Base × List Token) → Type 0
SpecsAre None r = r ≡ None
SpecsAre (Some (b, ts)) r = r ≡ Some (b, ts.now)
