use Rattle.std.proofs.Common.{◌≡◌, take}
use Rattle.replay_runs.specs.Runs.{byte}
use Rattle.whole_runs.specs.World.{World, begin}
use Rattle.whole_runs.specs.Sides.{seen}
use Rattle.whole_runs.specs.Memory.{real}
use Rattle.reference_recorder_marks.specs.Marks.{past}
use Rattle.reference_recorder_memory.specs.Cells.{byte_of}
use Rattle.reference_recorder_memory.proofs.bytes.real.Given as goal

abbrev pub invariant-loop-mark : goal.invariant-loop-mark
invariant-loop-mark l = (w : World) → w.laid.placed ≡ l.placed →
    (byte_of l.byte ≡ byte (begin w) l.addr (seen (past (take l.mark-index l.marks)))) ×
    (l.value ≡ real w (past (take l.mark-index l.marks)) l.addr)
