-- What holds of the tokens and of all that stand after one of them holds of those that words leave.
use Rattle.std.proofs.Common.{◌≡◌, ℕ, Bool, true, false, List, [], ◌∷◌, Option, Some, None, if◌then◌else◌, ap}
use Rattle.c_lexer.specs.declared.token.Sign.TheVariants as signs
use Rattle.c_lexer.specs.declared.token.Word.TheVariants as words
use Rattle.c_lexer.specs.declared.token.Kind.{Kind}
use Rattle.c_lexer.specs.declared.token.Kind.TheVariants as kinds
use Rattle.c_lexer.specs.declared.token.Token.{Token}
use Rattle.c_syntax.specs.declared.declaration.Base.{Base}
use Rattle.c_parser_moves.specs.Words.{take_specs, skip_consts, take_words, next_word, put_word, Step, Refused, Ended, More, based, with_rest, unless_const, is_const}
use Rattle.c_parser_moves.proofs.Machine.{Move, tail}
use Rattle.c_parser_moves.proofs.MachineSource.{defines_kinds, top}
use Rattle.c_syntax.specs.declared.specifier.Specifiers.{Specifiers}
use Rattle.c_syntax.specs.TypeWords.{no_words, base_of}

pub defined : (a b c : Kind) (ts us : List Token) (n : List ℕ) → defines_kinds a b c ts ≡ Some (n, us) → ts ≡ us
defined (kinds.Word words.Struct) (kinds.Name m) (kinds.Sign signs.OpenBrace) ts us n h = let p : ◌≡◌ {A = List ℕ × List Token} (m, ts) (n, us) = cc in ap (λ q. q.1) p
defined _ _ _ ts us n h = absurd cc

module _ (P : List Token → Type 0) (none : P []) (following : (t : Token) (ts : List Token) → P (t ∷ ts) → P ts) where
  pub on_if : (b : Bool) (x y : Move) → P x.rest → P y.rest → P (if b then x else y).rest
  on_if true x y h k = h
  on_if false x y h k = k

  pub on_tail : (ts : List Token) → P ts → P (tail ts)
  on_tail [] h = h
  on_tail (t ∷ ts) h = following t ts h

  on_unless : (b : Bool) (all ts : List Token) → P all → P ts → P (unless_const b all ts)
  on_unless true all ts h k = k
  on_unless false all ts h k = h

  pub on_consts : (ts : List Token) → P ts → P (skip_consts ts)
  on_consts [] h = h
  on_consts (t ∷ ts) h = on_unless (is_const t.kind) (t ∷ ts) (skip_consts ts) h (on_consts ts (following t ts h))

  abbrev WordsOn : Option (Specifiers × List Token) → Type 0
  WordsOn None = Unit {0}
  WordsOn (Some (s, us)) = P us

  on_word_step : (x : Step) (all ts : List Token) (top : Bool) → P all → ((q : Bool) (s : Specifiers) → WordsOn (take_words top q s ts)) → WordsOn (next_word x all (λ q s. take_words top q s ts))
  on_word_step Refused all ts top h k = tt
  on_word_step (Ended r) all ts top h k = h
  on_word_step (More q s) all ts top h k = k q s

  on_words : (ts : List Token) (top p : Bool) (r : Specifiers) → P ts → WordsOn (take_words top p r ts)
  on_words [] top true r h = tt
  on_words [] top false r h = h
  on_words (t ∷ ts) top p r h = on_word_step (put_word t.kind top p r) (t ∷ ts) ts top h (λ q s. on_words ts top q s (following t ts h))

  abbrev pub SpecsOn : Option (Base × List Token) → Type 0
  SpecsOn None = Unit {0}
  SpecsOn (Some (b, us)) = P us

  on_base : (o : Option Base) (ts : List Token) → P ts → SpecsOn (with_rest o ts)
  on_base None ts h = tt
  on_base (Some b) ts h = h

  on_based : (r : Option (Specifiers × List Token)) → WordsOn r → SpecsOn (based r)
  on_based None h = tt
  on_based (Some (s, us)) h = on_base (base_of s) us h

  pub on_specs : (top : Bool) (ts : List Token) → P ts → SpecsOn (take_specs top ts)
  unfolding take_specs
  on_specs top ts h = on_based (take_words top false no_words ts) (on_words ts top false no_words h)
