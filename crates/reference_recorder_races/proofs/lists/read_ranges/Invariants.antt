use Rattle.std.proofs.Common.{take}
use Rattle.marks.specs.Ranges.{any_range}
use Rattle.reference_recorder_races.specs.Least.{IsLeastAt}
use Rattle.reference_recorder_races.specs.Hits.{reading}
use Rattle.reference_recorder_races.proofs.lists.read_ranges.Given as goal

abbrev pub invariant-loop-range : goal.invariant-loop-range
invariant-loop-range l = IsLeastAt (λ x. reading l.tested x (any_range (take l.range-index l.ranges) x)) l.best
