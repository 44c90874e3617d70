use Rattle.std.proofs.Common.{take}
use Rattle.lockset_check_held.specs.Changes.{Xors, change_of}
use Rattle.lockset_check_held.proofs.changed.Changed.turn_all.Given as goal

abbrev pub invariant-loop-i : goal.invariant-loop-i
invariant-loop-i l = Xors (change_of (take l.i l.others)) (change_of l.initial.self) (change_of l.self)
