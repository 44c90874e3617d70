use Rattle.std.proofs.Common.{◌≡◌, ◌++◌, take}
use Rattle.marks.specs.Ranges.{piece_bytes}
use Rattle.reference_recorder_records.proofs.copies.add_pieces.Given as goal

abbrev pub invariant-loop-piece : goal.invariant-loop-piece
invariant-loop-piece l = l.to.items ≡ l.fn.to.items ++ piece_bytes (take l.piece-index l.pieces)
