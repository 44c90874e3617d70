-- The values that a list stands for, by how they lie in memory.
use Rattle.std.specs.Prelude.{ℕ, ℤ, List, [], ◌∷◌}
use Rattle.std.specs.Int.{cast_unsigned, w64}
use Rattle.run_events.specs.declared.words.PackedWords.{PackedWords}
use Rattle.run_events.specs.declared.words.PackedWords.TheVariants as packed
use Rattle.run_events.specs.declared.words.Unpacked.{Unpacked}
use Rattle.run_events.specs.declared.words.Unpacked.TheVariants as unpacked

-- the pattern of 64 bits of a number, in two's complement
abbrev pub pattern : ℤ → ℕ
pattern z = cast_unsigned w64 z

abbrev pub words_of : PackedWords → List ℕ
words_of packed.Empty = []
words_of (packed.One word) = word ∷ []
words_of (packed.Two both) = both
words_of (packed.Three a b c) = pattern a ∷ pattern b ∷ pattern c ∷ []
words_of (packed.Four a b c d) = pattern a ∷ pattern b ∷ pattern c ∷ pattern d ∷ []
words_of (packed.Five a b c d e) = pattern a ∷ pattern b ∷ pattern c ∷ pattern d ∷ pattern e ∷ []
words_of (packed.Six a b c d e f) = pattern a ∷ pattern b ∷ pattern c ∷ pattern d ∷ pattern e ∷ pattern f ∷ []
words_of (packed.Seven a b c d e f g) = pattern a ∷ pattern b ∷ pattern c ∷ pattern d ∷ pattern e ∷
    pattern f ∷ pattern g ∷ []
words_of (packed.Eight a b c d e f g h) = pattern a ∷ pattern b ∷ pattern c ∷ pattern d ∷ pattern e ∷
    pattern f ∷ pattern g ∷ pattern h ∷ []
words_of (packed.WideThree all) = all.value
words_of (packed.WideFour all) = all.value
words_of (packed.WideFive all) = all.value
words_of (packed.WideSix all) = all.value
words_of (packed.WideSeven all) = all.value
words_of (packed.WideEight all) = all.value
words_of (packed.More many) = many.value.items

abbrev pub unpacked_words : Unpacked → List ℕ
unpacked_words (unpacked.Three few) = few
unpacked_words (unpacked.Four few) = few
unpacked_words (unpacked.Five few) = few
unpacked_words (unpacked.Six few) = few
unpacked_words (unpacked.Seven few) = few
unpacked_words (unpacked.Eight few) = few
unpacked_words (unpacked.All all) = all.now
