use Rattle.std.proofs.Common.{◌≡◌, ℕ, bit_and, take}
use Rattle.lockset_check_held.specs.Changes.{change_of}
use Rattle.lockset_check_held.specs.Rows.{word_of}
use Rattle.lockset_check_held.proofs.row.Row.among.Given as goal

abbrev pub invariant-loop-i : goal.invariant-loop-i
invariant-loop-i l = (n : ℕ) → change_of l.both n ≡ bit_and (word_of l.self n) (change_of (take l.i l.changed) n)
