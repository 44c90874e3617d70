use Rattle.std.proofs.Common.{List, subst}
use Rattle.marks.specs.Ranges.{Prepared, any_prepared}
use Rattle.reference_recorder_races.specs.Least.{IsLeastAt}
use Rattle.reference_recorder_races.specs.Hits.{writing}
use Rattle.reference_recorder_races.proofs.lists.prepared_list.Goals as goal

pub returns : goal.returns
returns c = subst (λ (xs : List Prepared). IsLeastAt (λ x. writing c.args.tested x (any_prepared xs x)) c.written_prepared.result) c.as_slice.ensures c.written_prepared.ensures
