use Rattle.std.proofs.Common.{List, subst}
use Rattle.marks.specs.Ranges.{Piece, any_piece}
use Rattle.reference_recorder_races.specs.Least.{IsLeastAt}
use Rattle.reference_recorder_races.specs.Hits.{writing}
use Rattle.reference_recorder_races.proofs.lists.written_list.Goals as goal

pub returns : goal.returns
returns c = subst (λ (xs : List Piece). IsLeastAt (λ x. writing c.args.tested x (any_piece xs x)) c.written_pieces.result) c.as_slice.ensures c.written_pieces.ensures
