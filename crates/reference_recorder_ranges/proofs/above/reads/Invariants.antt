use Rattle.std.proofs.Common.{List, drop}
use Rattle.marks.specs.Marks.{Mark}
use Rattle.replay_runs.specs.Checks.{Done, read_checks}
use Rattle.whole_runs.specs.World.{World, begin}
use Rattle.whole_runs.specs.Sides.{seen}
use Rattle.reference_recorder_findings.proofs.Lists.{FindsFor}
use Rattle.reference_recorder_ranges.specs.Pasts.{IsLowPastOf}
use Rattle.reference_recorder_ranges.proofs.above.reads.Given as goal

abbrev pub invariant-loop-one : goal.invariant-loop-one
invariant-loop-one l = (w : World) (p : List Mark) → IsLowPastOf w p l.run →
    FindsFor (read_checks (begin w) (seen p) l.thread (drop l.one-index l.ranges) Done) (read_checks (begin w) (seen p) l.thread l.ranges Done)
