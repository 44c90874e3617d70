use Rattle.std.proofs.Common.{◌≡◌, take}
use Rattle.whole_runs.specs.Below.{system_blocks}
use Rattle.reference_recorder_marks.specs.Marks.{past}
use Rattle.reference_recorder_regions.proofs.pools.system_blocks.Given as goal

abbrev pub invariant-loop-mark : goal.invariant-loop-mark
invariant-loop-mark l = l.blocks.items ≡ system_blocks (past (take l.mark-index l.marks))
