use Rattle.std.proofs.Common.{take}
use Rattle.reference_recorder_marks.specs.Marks.{past}
use Rattle.reference_recorder_log.specs.Logs.{HasChunks}
use Rattle.reference_recorder_log.proofs.log.put_chunks.Given as goal

abbrev pub invariant-loop-at : goal.invariant-loop-at
invariant-loop-at l = HasChunks l.chunk (past (take l.at l.marks)) l.log.items
