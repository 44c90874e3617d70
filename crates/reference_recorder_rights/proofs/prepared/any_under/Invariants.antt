use Rattle.std.proofs.Common.{◌≡◌, drop}
use Rattle.whole_runs.specs.World.{World}
use Rattle.reference_recorder_marks.specs.Marks.{past}
use Rattle.reference_recorder_rights.specs.Rights.{any_under}
use Rattle.reference_recorder_rights.proofs.HandedDown.{region_in}
use Rattle.reference_recorder_rights.proofs.prepared.any_under.Given as goal

abbrev pub invariant-loop-one : goal.invariant-loop-one
invariant-loop-one l = (w : World) → any_under (region_in w (past l.marks)) l.addr (drop l.one-index l.prepared) ≡ any_under (region_in w (past l.marks)) l.addr l.prepared
