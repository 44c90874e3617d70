use Rattle.std.proofs.Common.{◌≡◌, ℕ, ◌<◌}
use Rattle.marks.specs.Ranges.{IsInRange}
use Rattle.whole_runs.specs.World.{World}
use Rattle.whole_runs.specs.Below.{IsForbidden}
use Rattle.reference_recorder_marks.specs.Marks.{past}
use Rattle.reference_recorder_scans.proofs.forbidden.forbidden_from.Given as goal

abbrev pub invariant-loop-addr : goal.invariant-loop-addr
invariant-loop-addr l = (w : World) → w.laid.placed ≡ l.placed → (x : ℕ) → IsInRange l.range x → x < l.addr → ¬ IsForbidden w (past l.marks) l.thread l.write x
