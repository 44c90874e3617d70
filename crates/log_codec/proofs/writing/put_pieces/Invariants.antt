use Rattle.std.proofs.Common.{◌≡◌, ◌++◌, take}
use Rattle.std.specs.Int.{to_be_bytes}
use Rattle.std.specs.List.{flat_map}
use Rattle.log_codec.specs.LogText.{piece_text}
use Rattle.log_codec.proofs.writing.put_pieces.Given as goal

abbrev pub invariant-loop-piece : goal.invariant-loop-piece
invariant-loop-piece l = record {
  before : l.out.before ≡ l.fn.out.before;
  added : l.out.added ≡ l.fn.out.added ++ flat_map (piece_text to_be_bytes) (take l.piece-index l.pieces);
}
