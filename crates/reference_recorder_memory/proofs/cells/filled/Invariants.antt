use Rattle.std.proofs.Common.{◌≡◌, drop}
use Rattle.whole_runs.specs.Memory.{filled}
use Rattle.reference_recorder_memory.proofs.cells.filled.Given as goal

abbrev pub invariant-loop-piece : goal.invariant-loop-piece
invariant-loop-piece l = filled (drop l.piece-index l.pieces) l.addr l.now ≡ filled l.pieces l.addr l.fn.value
