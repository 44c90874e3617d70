use Rattle.std.proofs.Common.{ℕ, ◌≡◌, take}
use Rattle.space_memory_bytes.specs.Areas.{extents, IsDead}
use Rattle.space_memory_bytes.proofs.live_bytes.LiveBytes.new.Given as goal

-- an area for each range so far, and no live byte
abbrev pub invariant-loop-range : goal.invariant-loop-range
invariant-loop-range l = record {
  areas : extents l.areas.items ≡ take l.range-index l.ranges;
  dead : (x : ℕ) → IsDead l.areas.items x;
}
