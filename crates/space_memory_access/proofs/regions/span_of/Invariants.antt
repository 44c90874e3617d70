use Rattle.std.proofs.Common.{take}
use Rattle.space_memory_access.specs.Spans.{HoldsPending}
use Rattle.space_memory_access.proofs.regions.span_of.Given as goal

-- the span has the pending bytes of the regions so far
abbrev pub invariant-loop-region : goal.invariant-loop-region
invariant-loop-region l = HoldsPending l.span (take l.region-index l.regions)
