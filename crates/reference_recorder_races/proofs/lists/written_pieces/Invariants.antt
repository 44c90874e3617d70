use Rattle.std.proofs.Common.{take}
use Rattle.marks.specs.Ranges.{any_piece}
use Rattle.reference_recorder_races.specs.Least.{IsLeastAt}
use Rattle.reference_recorder_races.specs.Hits.{writing}
use Rattle.reference_recorder_races.proofs.lists.written_pieces.Given as goal

abbrev pub invariant-loop-piece : goal.invariant-loop-piece
invariant-loop-piece l = IsLeastAt (λ x. writing l.tested x (any_piece (take l.piece-index l.pieces) x)) l.best
