use Rattle.std.proofs.Common.{◌≡◌, take}
use Rattle.whole_runs.specs.Outcomes.{holder as holder_of}
use Rattle.reference_recorder_marks.specs.Marks.{past}
use Rattle.reference_recorder_outcomes.proofs.mutexes.holder.Given as goal

abbrev pub invariant-loop-mark : goal.invariant-loop-mark
invariant-loop-mark l = l.held ≡ holder_of l.mutex (past (take l.mark-index l.marks))
