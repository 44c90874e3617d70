use Rattle.std.proofs.Common.{◌≡◌, ℕ, ◌<◌, get_or}
use Rattle.whole_runs.specs.World.{World}
use Rattle.reference_recorder_marks.specs.Marks.{past}
use Rattle.reference_recorder_scans.specs.Found.{IsLow}
use Rattle.reference_recorder_faults.specs.Ranges.{HasDead, no_range}
use Rattle.reference_recorder_faults.proofs.ranges.first_dead_range.Given as goal

-- none so far has one
abbrev pub invariant-loop-place : goal.invariant-loop-place
invariant-loop-place l = (w : World) → w.laid.placed ≡ l.placed → IsLow w (past l.marks) → (k : ℕ) → k < l.place → HasDead w (past l.marks) (get_or l.ranges k no_range) → ⊥
