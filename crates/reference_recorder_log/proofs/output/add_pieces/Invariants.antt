use Rattle.std.proofs.Common.{◌≡◌, ◌++◌, take}
use Rattle.replay_runs.specs.Records.{pieces_in_a_row}
use Rattle.reference_recorder_log.proofs.output.add_pieces.Given as goal

abbrev pub invariant-loop-piece : goal.invariant-loop-piece
invariant-loop-piece l = l.to.items ≡ l.fn.to.items ++ pieces_in_a_row (take l.piece-index l.pieces)
