use Rattle.std.proofs.Common.{◌≡◌, drop, nat_eq}
use Rattle.std.specs.List.{find}
use Rattle.std.specs.Cmp.Lexicographic.{pointwise}
use Rattle.c_lexer.specs.Words.{word_text}
use Rattle.c_lexer.proofs.spelling.first_word.Given as goal

abbrev pub invariant-loop-word : goal.invariant-loop-word
invariant-loop-word l = find (λ k. pointwise nat_eq l.name (word_text k)) (drop l.word-index l.words) ≡ find (λ k. pointwise nat_eq l.name (word_text k)) l.words
