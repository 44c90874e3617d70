use Rattle.std.proofs.Common.{◌≡◌, take}
use Rattle.whole_runs.specs.World.{World}
use Rattle.reference_recorder_rights.specs.Rights.{past_under}
use Rattle.reference_recorder_rights.proofs.HandedDown.{region_in}
use Rattle.reference_recorder_marks.specs.Marks.{past}
use Rattle.reference_recorder_rights.proofs.prepared.is_prepared.Given as goal

abbrev pub invariant-loop-mark : goal.invariant-loop-mark
invariant-loop-mark l = (w : World) → l.found ≡ past_under (region_in w (past l.marks)) l.addr (past (take l.mark-index l.marks))
