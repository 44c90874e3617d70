use Rattle.std.proofs.Common.{take}
use Rattle.reference_recorder_marks.specs.Marks.{past}
use Rattle.reference_recorder_log.specs.Records.{IsOutputOf}
use Rattle.reference_recorder_log.proofs.output.replay_output.Given as goal

abbrev pub invariant-loop-mark : goal.invariant-loop-mark
invariant-loop-mark l = IsOutputOf (past (take l.mark-index l.marks)) l.bytes.items
