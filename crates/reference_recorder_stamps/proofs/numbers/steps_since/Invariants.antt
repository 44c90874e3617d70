use Rattle.std.proofs.Common.{◌≤◌, take}
use Rattle.reference_recorder_marks.specs.Marks.{past}
use Rattle.reference_recorder_stamps.specs.Numbers.{AreSteps}
use Rattle.reference_recorder_stamps.proofs.numbers.steps_since.Given as goal

abbrev pub invariant-loop-mark : goal.invariant-loop-mark
invariant-loop-mark l = AreSteps (past (take l.mark-index l.marks)) l.thread l.steps × (l.steps ≤ l.mark-index)
