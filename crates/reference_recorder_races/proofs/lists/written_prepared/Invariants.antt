use Rattle.std.proofs.Common.{take}
use Rattle.marks.specs.Ranges.{any_prepared}
use Rattle.reference_recorder_races.specs.Least.{IsLeastAt}
use Rattle.reference_recorder_races.specs.Hits.{writing}
use Rattle.reference_recorder_races.proofs.lists.written_prepared.Given as goal

abbrev pub invariant-loop-one : goal.invariant-loop-one
invariant-loop-one l = IsLeastAt (λ x. writing l.tested x (any_prepared (take l.one-index l.prepared) x)) l.best
