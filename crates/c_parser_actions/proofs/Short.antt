-- What is read leaves no more tokens.
use Rattle.std.proofs.Common.{ℕ, ◌<◌, ◌≤◌, suc, Bool, true, false, List, [], ◌∷◌, Option, Some, None, length, if◌then◌else◌, arith}
use Rattle.c_lexer.specs.declared.token.Token.{Token}
use Rattle.c_syntax.specs.declared.declaration.Base.{Base}
use Rattle.c_parser_moves.specs.Words.{take_specs, skip_consts, take_words, next_word, put_word, Step, Refused, Ended, More, based, with_rest, unless_const, is_const}
use Rattle.c_parser_moves.proofs.Machine.{Move, tail}
use Rattle.c_parser_moves.proofs.MachineSource.{top}
use Rattle.c_syntax.specs.declared.specifier.Specifiers.{Specifiers}
use Rattle.c_syntax.specs.TypeWords.{no_words, base_of}
use Rattle.c_parser_actions.proofs.Weight.{weight}

pub less_if : (b : Bool) (x y : Move) (w : ℕ) → weight x < w → weight y < w → weight (if b then x else y) < w
less_if true x y w h k = h
less_if false x y w h k = k

pub tail_short : (ts : List Token) → length (tail ts) ≤ length ts
tail_short [] = omega arith
tail_short (t ∷ ts) = omega arith

pub consts_short : (ts : List Token) → length (skip_consts ts) ≤ length ts
consts_short [] = omega arith
consts_short (t ∷ ts) = by (is_const t.kind) (consts_short ts)
  where
    by : (b : Bool) → length (skip_consts ts) ≤ length ts → length (unless_const b (t ∷ ts) (skip_consts ts)) ≤ length (t ∷ ts)
    by true h = omega (arith, h)
    by false h = omega arith

abbrev Short : Option (Specifiers × List Token) → ℕ → Type 0
Short None n = Unit {0}
Short (Some (s, us)) n = length us ≤ n

short_more : (r : Option (Specifiers × List Token)) (n : ℕ) → Short r n → Short r (suc n)
short_more None n h = tt
short_more (Some (s, us)) n h = omega (arith, h)

short_step : (x : Step) (t : Token) (ts : List Token) (top : Bool) → ((q : Bool) (s : Specifiers) → Short (take_words top q s ts) (length ts)) → Short (next_word x (t ∷ ts) (λ q s. take_words top q s ts)) (suc (length ts))
short_step Refused t ts top h = tt
short_step (Ended r) t ts top h = omega arith
short_step (More q s) t ts top h = short_more (take_words top q s ts) (length ts) (h q s)

words_short : (ts : List Token) (top p : Bool) (r : Specifiers) → Short (take_words top p r ts) (length ts)
words_short [] top true r = tt
words_short [] top false r = omega arith
words_short (t ∷ ts) top p r = short_step (put_word t.kind top p r) t ts top (λ q s. words_short ts top q s)

abbrev pub ShortSpecs : Option (Base × List Token) → ℕ → Type 0
ShortSpecs None n = Unit {0}
ShortSpecs (Some (b, us)) n = length us ≤ n

rest_short : (o : Option Base) (ts : List Token) (n : ℕ) → length ts ≤ n → ShortSpecs (with_rest o ts) n
rest_short None ts n h = tt
rest_short (Some b) ts n h = h

based_short : (r : Option (Specifiers × List Token)) (n : ℕ) → Short r n → ShortSpecs (based r) n
based_short None n h = tt
based_short (Some (s, us)) n h = rest_short (base_of s) us n h

pub specs_short : (top : Bool) (ts : List Token) → ShortSpecs (take_specs top ts) (length ts)
unfolding take_specs
specs_short top ts = based_short (take_words top false no_words ts) (length ts) (words_short ts top false no_words)
