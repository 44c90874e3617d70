use Rattle.std.proofs.Common.{◌≡◌, length, map, take}
use Rattle.marks.specs.Ranges.{Piece}
use Rattle.reference_recorder_spaces.proofs.returns.sizes_of.Given as goal

abbrev pub invariant-loop-piece : goal.invariant-loop-piece
invariant-loop-piece l = l.sizes.items ≡ map (λ (p : Piece). length p.bytes) (take l.piece-index l.pieces)
