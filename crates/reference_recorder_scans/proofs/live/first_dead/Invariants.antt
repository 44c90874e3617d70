use Rattle.std.proofs.Common.{◌≡◌}
use Rattle.marks.specs.Bytes.{Dead}
use Rattle.replay_runs.specs.Runs.{byte}
use Rattle.whole_runs.specs.World.{World, begin}
use Rattle.whole_runs.specs.Sides.{seen}
use Rattle.reference_recorder_marks.specs.Marks.{past}
use Rattle.reference_recorder_scans.proofs.Scanning.{NoneBefore}
use Rattle.reference_recorder_scans.proofs.live.first_dead.Given as goal

abbrev pub invariant-loop-offset : goal.invariant-loop-offset
invariant-loop-offset l = (w : World) → w.laid.placed ≡ l.placed → NoneBefore l.range (λ x. (byte (begin w) x (seen (past l.marks))).cell ≡ Dead) l.offset
