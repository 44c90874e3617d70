use Rattle.std.proofs.Common.{take}
use Rattle.marks.specs.Ranges.{IsFirstIn}
use Rattle.space_memory_access.specs.Held.{IsPending}
use Rattle.space_memory_access.proofs.regions.Regions.first_pending.Given as goal

-- the first among the regions so far
abbrev pub invariant-loop-region : goal.invariant-loop-region
invariant-loop-region l = IsFirstIn l.range (IsPending (take l.region-index l.region-items)) l.first
