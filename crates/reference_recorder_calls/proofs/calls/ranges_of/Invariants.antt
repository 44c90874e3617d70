use Rattle.std.proofs.Common.{◌≡◌, take}
use Rattle.marks.specs.Ranges.{piece_ranges}
use Rattle.reference_recorder_calls.proofs.calls.ranges_of.Given as goal

abbrev pub invariant-loop-piece : goal.invariant-loop-piece
invariant-loop-piece l = l.ranges.items ≡ piece_ranges (take l.piece-index l.pieces)
