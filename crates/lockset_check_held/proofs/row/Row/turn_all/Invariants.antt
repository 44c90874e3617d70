use Rattle.std.proofs.Common.{take}
use Rattle.lockset_check_held.specs.Changes.{Xors, change_of}
use Rattle.lockset_check_held.specs.Rows.{word_of}
use Rattle.lockset_check_held.proofs.row.Row.turn_all.Given as goal

abbrev pub invariant-loop-i : goal.invariant-loop-i
invariant-loop-i l = Xors (change_of (take l.i l.changed)) (word_of l.initial.self) (word_of l.self)
