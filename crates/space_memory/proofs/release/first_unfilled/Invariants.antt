use Rattle.std.proofs.Common.{◌≡◌, ℕ, ◌+◌, length, drop}
use Rattle.space_memory.specs.Releases.{outs_of, AllFilled, FirstUnfilled}
use Rattle.space_memory.proofs.release.first_unfilled.Given as goal

-- what holds of the regions from this one on, and of the used sizes that are left, holds of all
abbrev pub invariant-loop-region : goal.invariant-loop-region
invariant-loop-region l = record {
  sizes : length l.used ≡ l.next + length (outs_of l.call (drop l.region-index l.regions));
  all : AllFilled l.bytes (outs_of l.call (drop l.region-index l.regions)) (drop l.next l.used) → AllFilled l.bytes (outs_of l.call l.regions) l.used;
  first : (x : ℕ) → FirstUnfilled l.bytes (outs_of l.call (drop l.region-index l.regions)) (drop l.next l.used) x → FirstUnfilled l.bytes (outs_of l.call l.regions) l.used x;
}
