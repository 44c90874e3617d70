use Rattle.std.proofs.Common.{◌≡◌, take}
use Rattle.whole_runs.specs.World.{World}
use Rattle.whole_runs.specs.Sides.{frames_on}
use Rattle.reference_recorder_marks.specs.Marks.{past}
use Rattle.reference_recorder_regions.proofs.frames.frames_on.Given as goal

abbrev pub invariant-loop-mark : goal.invariant-loop-mark
invariant-loop-mark l = (w : World) → l.frames.items ≡ frames_on w l.side l.thread (past (take l.mark-index l.marks))
