use Rattle.std.proofs.Common.{List, subst}
use Rattle.marks.specs.Ranges.{Piece, any_piece}
use Rattle.reference_recorder_races.specs.Least.{IsLeastAt}
use Rattle.reference_recorder_races.specs.Hits.{reading}
use Rattle.reference_recorder_races.proofs.lists.read_list.Goals as goal

pub returns : goal.returns
returns c = subst (λ (xs : List Piece). IsLeastAt (λ x. reading c.args.tested x (any_piece xs x)) c.read_pieces.result) c.as_slice.ensures c.read_pieces.ensures
