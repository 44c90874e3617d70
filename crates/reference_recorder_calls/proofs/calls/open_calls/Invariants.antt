use Rattle.std.proofs.Common.{take}
use Rattle.reference_recorder_marks.specs.Marks.{past}
use Rattle.reference_recorder_calls.specs.Mine.{AreOpenCalls}
use Rattle.reference_recorder_calls.proofs.calls.open_calls.Given as goal

abbrev pub invariant-loop-mark : goal.invariant-loop-mark
invariant-loop-mark l = AreOpenCalls (past (take l.mark-index l.marks)) l.thread l.calls.items
