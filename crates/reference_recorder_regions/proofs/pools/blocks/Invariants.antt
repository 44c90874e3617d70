use Rattle.std.proofs.Common.{◌≡◌, take}
use Rattle.replay_runs.specs.Pool.{blocks}
use Rattle.whole_runs.specs.World.{World, begin}
use Rattle.whole_runs.specs.Sides.{seen}
use Rattle.reference_recorder_marks.specs.Marks.{past}
use Rattle.reference_recorder_regions.proofs.pools.blocks.Given as goal

abbrev pub invariant-loop-mark : goal.invariant-loop-mark
invariant-loop-mark l = (w : World) → l.blocks.items ≡ blocks (begin w) (seen (past (take l.mark-index l.marks)))
