use Rattle.std.proofs.Common.{◌≡◌, true}
use Rattle.std.specs.Prelude.{◌⊎◌}
use Rattle.marks.specs.Ranges.{any_range}
use Rattle.marks.specs.Bytes.{IsHeld}
use Rattle.replay_runs.specs.Runs.{byte}
use Rattle.whole_runs.specs.World.{World, begin}
use Rattle.whole_runs.specs.Sides.{seen}
use Rattle.reference_recorder_marks.specs.Marks.{past}
use Rattle.reference_recorder_scans.proofs.Scanning.{NoneBefore}
use Rattle.reference_recorder_scans.proofs.pending.first_pending.Given as goal

abbrev pub invariant-loop-offset : goal.invariant-loop-offset
invariant-loop-offset l = (w : World) → w.laid.placed ≡ l.placed → NoneBefore l.range (λ x. IsHeld (byte (begin w) x (seen (past l.marks))).cell ⊎ (any_range l.more x ≡ true)) l.offset
