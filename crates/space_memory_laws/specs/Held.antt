-- What holds of the regions that are held, whatever the run.
use Rattle.std.specs.Prelude.{◌≡◌, ℕ, ◌<◌, Bool, true, false, ◌&&◌, List, [], ◌∷◌, length, None, slice_index, All}
use Rattle.std.specs.List.{list_any}
use Rattle.marks.specs.Places.{thread_count}
use Rattle.marks.specs.Ranges.{covers}
use Rattle.space_memory_access.specs.declared.holder.OpenCall.{OpenCall}
use Rattle.space_memory_access.specs.declared.holder.Region.{Region}
use Rattle.space_memory_access.specs.Holders.{is_pending, is_of, has_key}
use Rattle.space_memory_access.specs.Held.{HeldState, prepared_region}
use Rattle.space_memory.specs.Cells.{is_held}
use Rattle.space_memory.specs.Spaces.{IsWhole}

-- no two regions that wait meet
abbrev pub AreApart : List Region → Type 0
AreApart [] = Unit {0}
AreApart (r ∷ rest) = ((x : ℕ) → (is_pending r.holder && covers r.range x) ≡ true →
    is_held rest x ≡ false) × AreApart rest

-- no two regions are prepared under one key
abbrev pub HaveOwnKeys : List Region → Type 0
HaveOwnKeys [] = Unit {0}
HaveOwnKeys (r ∷ rest) = ((k : ℕ) → has_key k r.holder ≡ true → prepared_region rest k ≡ None) ×
    HaveOwnKeys rest

-- whether a region is held for the call, or prepared by it while it is open
abbrev pub has_region : OpenCall → List Region → Bool
has_region call regions = list_any (λ r. is_of call r.holder) regions

-- what holds of what is held
pub record AreHeld (held : HeldState) : Type 0 where
  pub threads : length held.depths ≡ thread_count
  pub whole : All IsWhole held.regions
  pub apart : AreApart held.regions
  pub keys : HaveOwnKeys held.regions
  -- a call that isn't open has no regions
  pub owned : (call : OpenCall) → (call.thread < thread_count →
      slice_index held.depths call.thread < call.depth) → has_region call held.regions ≡ false
