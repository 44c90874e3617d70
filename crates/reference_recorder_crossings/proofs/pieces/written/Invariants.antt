use Rattle.std.proofs.Common.{List}
use Rattle.marks.specs.Marks.{Mark}
use Rattle.whole_runs.specs.World.{World}
use Rattle.whole_runs.specs.Tests.{piece_checks}
use Rattle.reference_recorder_targets.specs.Places.{targets_of}
use Rattle.reference_recorder_findings.proofs.Lists.{FindsFor}
use Rattle.reference_recorder_ranges.specs.Pasts.{IsLowPastOf}
use Rattle.reference_recorder_crossings.proofs.PieceChecks.{from}
use Rattle.reference_recorder_crossings.proofs.pieces.written.Given as goal

abbrev pub invariant-loop-place : goal.invariant-loop-place
invariant-loop-place l = (w : World) (p : List Mark) → IsLowPastOf w p l.run →
    FindsFor (from w p l.thread l.targets l.answers l.place) (piece_checks w p l.thread (targets_of l.targets) l.answers)
