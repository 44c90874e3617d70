use Rattle.std.proofs.Common.{◌≡◌, take}
use Rattle.reference_recorder_marks.specs.Marks.{past}
use Rattle.reference_recorder_stamps.specs.Numbers.{ticketed}
use Rattle.reference_recorder_stamps.proofs.next.ticketed.Given as goal

abbrev pub invariant-loop-key : goal.invariant-loop-key
invariant-loop-key l = l.tickets.items ≡ ticketed (past l.marks) (take l.key-index l.keys)
