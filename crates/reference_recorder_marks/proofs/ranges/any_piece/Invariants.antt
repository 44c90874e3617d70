use Rattle.std.proofs.Common.{◌≡◌, drop}
use Rattle.marks.specs.Ranges.{any_piece}
use Rattle.reference_recorder_marks.proofs.ranges.any_piece.Given as goal

abbrev pub invariant-loop-piece : goal.invariant-loop-piece
invariant-loop-piece l = any_piece (drop l.piece-index l.pieces) l.addr ≡ any_piece l.pieces l.addr
