use Rattle.std.proofs.Common.{◌≡◌, take}
use Rattle.whole_runs.specs.Log.{system_output}
use Rattle.reference_recorder_marks.specs.Marks.{past}
use Rattle.reference_recorder_log.proofs.output.system_output.Given as goal

abbrev pub invariant-loop-mark : goal.invariant-loop-mark
invariant-loop-mark l = l.bytes.items ≡ system_output (past (take l.mark-index l.marks))
