use Rattle.std.proofs.Common.{◌≡◌, drop}
use Rattle.marks.specs.Bytes.{give_any}
use Rattle.reference_recorder_memory.specs.Cells.{cell_of}
use Rattle.reference_recorder_memory.proofs.cells.give_any.Given as goal

abbrev pub invariant-loop-piece : goal.invariant-loop-piece
invariant-loop-piece l = give_any (drop l.piece-index l.pieces) l.addr (cell_of l.cell) ≡ give_any l.pieces l.addr (cell_of l.cell)
