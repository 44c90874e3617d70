use Rattle.std.proofs.Common.{take}
use Rattle.reference_recorder_marks.specs.Marks.{past}
use Rattle.reference_recorder_calls.specs.Mine.{IsFaultOf}
use Rattle.reference_recorder_calls.proofs.faults.fault_of.Given as goal

abbrev pub invariant-loop-mark : goal.invariant-loop-mark
invariant-loop-mark l = IsFaultOf (past (take l.mark-index l.marks)) l.thread l.fault
