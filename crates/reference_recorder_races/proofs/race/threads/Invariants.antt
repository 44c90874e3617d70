use Rattle.std.proofs.Common.{◌≤◌, ◌<◌, take}
use Rattle.causal_order.specs.Order.{In}
use Rattle.marks.specs.Marks.{Mark}
use Rattle.whole_runs.specs.Sides.{seen}
use Rattle.reference_recorder_marks.specs.Marks.{past}
use Rattle.reference_recorder_races.proofs.race.threads.Given as goal

abbrev pub invariant-loop-mark : goal.invariant-loop-mark
invariant-loop-mark l = ((a : Mark) → In a (seen (past (take l.mark-index l.marks))) → a.thread < l.count) × (l.count ≤ 256)
