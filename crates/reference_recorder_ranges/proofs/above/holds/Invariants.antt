use Rattle.std.proofs.Common.{List, [], take, drop}
use Rattle.marks.specs.Marks.{Mark}
use Rattle.replay_runs.specs.Checks.{Done, hold_checks}
use Rattle.whole_runs.specs.World.{World, begin}
use Rattle.whole_runs.specs.Sides.{seen}
use Rattle.reference_recorder_findings.proofs.Lists.{FindsFor}
use Rattle.reference_recorder_ranges.specs.Pasts.{IsLowPastOf}
use Rattle.reference_recorder_ranges.proofs.above.holds.Given as goal

abbrev pub invariant-loop-at : goal.invariant-loop-at
invariant-loop-at l = (w : World) (p : List Mark) → IsLowPastOf w p l.run →
    FindsFor (hold_checks (begin w) (seen p) l.thread (take l.at l.ranges) (drop l.at l.ranges) Done) (hold_checks (begin w) (seen p) l.thread [] l.ranges Done)
