use Rattle.std.proofs.Common.{take}
use Rattle.reference_recorder_marks.specs.Marks.{past}
use Rattle.reference_recorder_calls.specs.Mine.{AreOpenUps}
use Rattle.reference_recorder_calls.proofs.ups.open_ups.Given as goal

abbrev pub invariant-loop-mark : goal.invariant-loop-mark
invariant-loop-mark l = AreOpenUps (past (take l.mark-index l.marks)) l.thread l.ups.items
