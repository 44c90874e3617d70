use Rattle.std.proofs.Common.{ℕ, ◌≤◌, ◌<◌, get_or}
use Rattle.space_memory_bytes.specs.Areas.{AreaState}
use Rattle.space_memory_bytes.specs.AreaChanges.{IsLiveIn}
use Rattle.space_memory_bytes.proofs.live_bytes.LiveBytes.first_live.Given as goal

-- none of the areas so far has a live byte from the address on
abbrev pub invariant-loop-area : goal.invariant-loop-area
invariant-loop-area l = (i : ℕ) (d : AreaState) → i < l.area-index → (x : ℕ) → l.from ≤ x → ¬ IsLiveIn (get_or l.area-items i d) x
