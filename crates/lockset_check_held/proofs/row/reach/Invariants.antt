use Rattle.std.proofs.Common.{◌≡◌, ℕ, length, ◌+◌, ◌-◌}
use Rattle.lockset_check_held.specs.Rows.{word_of}
use Rattle.lockset_check_held.proofs.row.reach.Given as goal

abbrev pub invariant-loop-words : goal.invariant-loop-words
invariant-loop-words l = (n : ℕ) → word_of l.words.items n ≡ word_of l.initial.words.items n

abbrev pub decreases-loop-words : goal.decreases-loop-words
decreases-loop-words l = l.number + 1 - length l.words.items
