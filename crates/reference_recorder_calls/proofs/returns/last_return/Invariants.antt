use Rattle.std.proofs.Common.{take}
use Rattle.reference_recorder_marks.specs.Marks.{past}
use Rattle.reference_recorder_calls.specs.Mine.{IsLastReturn}
use Rattle.reference_recorder_calls.proofs.returns.last_return.Given as goal

abbrev pub invariant-loop-mark : goal.invariant-loop-mark
invariant-loop-mark l = IsLastReturn (past (take l.mark-index l.marks)) l.thread l.func l.last
