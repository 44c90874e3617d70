use Rattle.std.proofs.Common.{◌≡◌, take}
use Rattle.whole_runs.specs.World.{World}
use Rattle.reference_recorder_rights.proofs.HandedDown.{open_flags}
use Rattle.reference_recorder_marks.specs.Marks.{past}
use Rattle.reference_recorder_rights.proofs.opens.open_flags.Given as goal

abbrev pub invariant-loop-mark : goal.invariant-loop-mark
invariant-loop-mark l = (w : World) → l.calls.items ≡ open_flags w l.addr l.thread (past (take l.mark-index l.marks))
