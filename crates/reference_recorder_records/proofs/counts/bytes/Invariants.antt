use Rattle.std.proofs.Common.{◌≡◌, ◌≤◌, ◌*◌, ◌^◌, length, take}
use Rattle.whole_runs.specs.Ends.{bytes_of, events_of}
use Rattle.reference_recorder_marks.specs.Marks.{past}
use Rattle.reference_recorder_records.proofs.counts.bytes.Given as goal

abbrev pub invariant-loop-mark : goal.invariant-loop-mark
invariant-loop-mark l = (l.total ≡ bytes_of (past (take l.mark-index l.marks))) × (l.total ≤ length (events_of (past (take l.mark-index l.marks))) * 2 ^ 40)
