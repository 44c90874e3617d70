use Rattle.std.proofs.Common.{List, subst}
use Rattle.marks.specs.declared.range.Range.{Range}
use Rattle.marks.specs.Ranges.{any_range}
use Rattle.reference_recorder_races.specs.Least.{IsLeastAt}
use Rattle.reference_recorder_races.specs.Hits.{writing}
use Rattle.reference_recorder_races.proofs.lists.held_list.Goals as goal

pub returns : goal.returns
returns c = subst (λ (xs : List Range). IsLeastAt (λ x. writing c.args.tested x (any_range xs x)) c.written_ranges.result) c.as_slice.ensures c.written_ranges.ensures
