use Rattle.std.proofs.Common.{◌≡◌, ◌≤◌, length, take}
use Rattle.whole_runs.specs.Ends.{events_of}
use Rattle.reference_recorder_marks.specs.Marks.{past}
use Rattle.reference_recorder_records.proofs.counts.events.Given as goal

abbrev pub invariant-loop-mark : goal.invariant-loop-mark
invariant-loop-mark l = (l.number ≡ length (events_of (past (take l.mark-index l.marks)))) × (l.number ≤ l.mark-index)
