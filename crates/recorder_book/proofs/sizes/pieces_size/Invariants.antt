use Rattle.std.proofs.Common.{◌≡◌, ◌+◌, ◌*◌, ◌≤◌, ◌^◌, length, take}
use Rattle.std.specs.Prelude.{sum_by}
use Rattle.recorder_book.proofs.sizes.pieces_size.Given as goal

abbrev pub invariant-loop-piece : goal.invariant-loop-piece
invariant-loop-piece l = (l.piece-items ≡ l.pieces) × (l.size ≡ sum_by (λ bytes. 4 + length bytes) (take l.piece-index l.piece-items)) × (l.size ≤ l.piece-index * (4 + 2 ^ 32))
