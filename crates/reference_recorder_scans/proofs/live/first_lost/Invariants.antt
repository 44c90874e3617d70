use Rattle.std.proofs.Common.{◌≡◌, None}
use Rattle.whole_runs.specs.World.{World}
use Rattle.whole_runs.specs.Memory.{real}
use Rattle.reference_recorder_marks.specs.Marks.{past}
use Rattle.reference_recorder_scans.proofs.Scanning.{NoneBefore}
use Rattle.reference_recorder_scans.proofs.live.first_lost.Given as goal

abbrev pub invariant-loop-offset : goal.invariant-loop-offset
invariant-loop-offset l = (w : World) → w.laid.placed ≡ l.placed → NoneBefore l.range (λ x. real w (past l.marks) x ≡ None) l.offset
