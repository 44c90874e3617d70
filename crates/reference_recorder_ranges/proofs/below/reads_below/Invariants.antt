use Rattle.std.proofs.Common.{List, drop}
use Rattle.marks.specs.Marks.{Mark}
use Rattle.whole_runs.specs.World.{World}
use Rattle.whole_runs.specs.Below.{read_checks}
use Rattle.reference_recorder_findings.proofs.Lists.{FindsFor}
use Rattle.reference_recorder_ranges.specs.Pasts.{IsLowPastOf}
use Rattle.reference_recorder_ranges.proofs.below.reads_below.Given as goal

abbrev pub invariant-loop-one : goal.invariant-loop-one
invariant-loop-one l = (w : World) (p : List Mark) → IsLowPastOf w p l.run →
    FindsFor (read_checks w p l.thread (drop l.one-index l.ranges)) (read_checks w p l.thread l.ranges)
