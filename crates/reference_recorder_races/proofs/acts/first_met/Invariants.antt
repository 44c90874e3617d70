use Rattle.std.proofs.Common.{take}
use Rattle.whole_runs.specs.Sides.{seen}
use Rattle.reference_recorder_marks.specs.Marks.{past}
use Rattle.reference_recorder_races.specs.Least.{IsLeastAt}
use Rattle.reference_recorder_races.specs.Hits.{meets_any}
use Rattle.reference_recorder_races.proofs.acts.first_met.Given as goal

abbrev pub invariant-loop-one : goal.invariant-loop-one
invariant-loop-one l = IsLeastAt (meets_any l.tested l.other l.known (seen (past (take l.one-index l.marks)))) l.best
