use Rattle.std.proofs.Common.{◌≤◌, List, length, subst, arith}
use Rattle.std.proofs.lemmas.List.{take_all}
use Rattle.marks.specs.Ranges.{Piece, any_piece}
use Rattle.reference_recorder_races.specs.Least.{IsLeastAt}
use Rattle.reference_recorder_races.specs.Hits.{writing}
use Rattle.reference_recorder_races.proofs.Anys.{none_written, pieces_written}
use Rattle.reference_recorder_races.proofs.lists.written_pieces.Goals as goal

pub loop-piece-init : goal.loop-piece-init
loop-piece-init c = none_written c.args.tested

pub loop-piece-preserved : goal.loop-piece-preserved
loop-piece-preserved c = pieces_written c.args.tested c.args.pieces.now c.loop-piece.piece-index c.piece-item.result c.loop-piece-test.true c.piece-item.is c.loop-piece.best c.written_piece-more.result c.least-best.result c.least-best.ensures c.loop-piece.invariant c.written_piece-more.ensures

pub returns : goal.returns
returns c =
    let le : length c.args.pieces.now ≤ c.loop-piece.piece-index = omega arith in
    subst (λ (xs : List Piece). IsLeastAt (λ x. writing c.args.tested x (any_piece xs x)) c.loop-piece.best) (take_all c.loop-piece.piece-index c.args.pieces.now le) c.loop-piece.invariant
