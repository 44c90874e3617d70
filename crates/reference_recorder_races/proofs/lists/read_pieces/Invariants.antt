use Rattle.std.proofs.Common.{take}
use Rattle.marks.specs.Ranges.{any_piece}
use Rattle.reference_recorder_races.specs.Least.{IsLeastAt}
use Rattle.reference_recorder_races.specs.Hits.{reading}
use Rattle.reference_recorder_races.proofs.lists.read_pieces.Given as goal

abbrev pub invariant-loop-piece : goal.invariant-loop-piece
invariant-loop-piece l = IsLeastAt (λ x. reading l.tested x (any_piece (take l.piece-index l.pieces) x)) l.best
