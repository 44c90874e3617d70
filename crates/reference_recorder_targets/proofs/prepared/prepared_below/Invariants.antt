use Rattle.std.proofs.Common.{◌≡◌, take}
use Rattle.whole_runs.specs.World.{World}
use Rattle.whole_runs.specs.Below.{prepared_below}
use Rattle.reference_recorder_marks.specs.Marks.{past}
use Rattle.reference_recorder_targets.specs.Annotated.{AreOf}
use Rattle.reference_recorder_targets.proofs.prepared.prepared_below.Given as goal

abbrev pub invariant-loop-mark : goal.invariant-loop-mark
invariant-loop-mark l = (w : World) → AreOf w l.annotations → l.last ≡ prepared_below w l.key (past (take l.mark-index l.marks))
