use Rattle.std.proofs.Common.{List, [], drop}
use Rattle.marks.specs.Marks.{Mark}
use Rattle.replay_runs.specs.Checks.{Done, key_checks}
use Rattle.whole_runs.specs.World.{World, begin}
use Rattle.whole_runs.specs.Sides.{seen}
use Rattle.reference_recorder_findings.proofs.Lists.{FindsFor}
use Rattle.reference_recorder_uses.specs.Pasts.{IsPastOf}
use Rattle.reference_recorder_uses.proofs.preparing.keys.Given as goal

abbrev pub invariant-loop-one : goal.invariant-loop-one
invariant-loop-one l = (w : World) (p : List Mark) → IsPastOf w p l.run →
    FindsFor (key_checks (begin w) (seen p) l.more.items (drop l.one-index l.prepared) Done) (key_checks (begin w) (seen p) [] l.prepared Done)
