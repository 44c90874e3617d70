use Rattle.std.proofs.Common.{ℕ, List, Option, drop}
use Rattle.stub_operations.specs.Growing.{IsAdded}
use Rattle.stub_texts.specs.Texts.{names_in, texts_from}
use Rattle.stub_texts.proofs.set.text.Given as goal

-- what is left makes the whole
abbrev pub invariant-loop-number : goal.invariant-loop-number
invariant-loop-number l =
    (q : Option (List ℕ)) → IsAdded l.text (texts_from l.word (names_in l.code) l.number (drop l.number l.all)) q →
    IsAdded l.initial.text (texts_from l.word (names_in l.code) 0 l.all) q
