use Rattle.std.proofs.Common.{List, map, length}
use Rattle.marks.specs.Marks.{Mark}
use Rattle.replay_runs.specs.Checks.{Done, size_checks}
use Rattle.whole_runs.specs.World.{World}
use Rattle.reference_recorder_findings.proofs.Lists.{FindsFor}
use Rattle.reference_recorder_findings.proofs.Returns.{sizes_from}
use Rattle.reference_recorder_ranges.specs.Pasts.{IsLowPastOf}
use Rattle.reference_recorder_ranges.specs.Checks.{changed_by}
use Rattle.reference_recorder_ranges.proofs.brought.sizes.Given as goal

abbrev pub invariant-loop-place : goal.invariant-loop-place
invariant-loop-place l = (w : World) (p : List Mark) → IsLowPastOf w p l.run →
    FindsFor (sizes_from (changed_by w p l.pieces) (map length l.answers) l.regions l.used l.place) (size_checks (changed_by w p l.pieces) (map length l.answers) l.regions l.used Done)
