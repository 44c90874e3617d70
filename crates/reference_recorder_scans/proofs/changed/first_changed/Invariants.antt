use Rattle.std.proofs.Common.{◌≡◌, ◌+◌, ◌≤◌, true}
use Rattle.replay_runs.specs.Runs.{byte}
use Rattle.whole_runs.specs.World.{World, begin}
use Rattle.whole_runs.specs.Sides.{seen}
use Rattle.whole_runs.specs.Memory.{filled, real}
use Rattle.whole_runs.specs.Tests.{is_changed}
use Rattle.reference_recorder_marks.specs.Marks.{past}
use Rattle.reference_recorder_scans.proofs.Scanning.{NoneBefore}
use Rattle.reference_recorder_scans.proofs.changed.first_changed.Given as goal

abbrev pub invariant-loop-offset : goal.invariant-loop-offset
invariant-loop-offset l = (w : World) → w.laid.placed ≡ l.placed → NoneBefore l.region (λ x. (l.region.addr + l.used ≤ x) × (is_changed (byte (begin w) x (seen (past l.marks))).cell (filled l.pieces x (real w (past l.marks) x)) ≡ true)) l.offset
