-- The regions that externals prepared below the cut.
use Rattle.std.specs.Prelude.{◌≡◌, ℕ, List, Option}
use Rattle.std.specs.Option.{option_or}
use Rattle.std.specs.Ordering.{nat_cmp}
use Rattle.std.specs.BTreeMap.{get}
use Rattle.marks.specs.declared.range.Range.{Range}
use Rattle.marks.specs.Ranges.{Prepared}
use Rattle.marks.specs.Marks.{Mark}
use Rattle.whole_runs.specs.World.{World}
use Rattle.whole_runs.specs.Below.{last_under, prepared_below}
use Rattle.recorder_state.specs.declared.prepared.PreparedBelow.{PreparedBelow}

-- the one that is kept under a key
abbrev pub region_of : PreparedBelow → (key : ℕ) → Option Range
region_of p k = get nat_cmp p.regions k

-- under each key the one that was prepared there last is kept
abbrev pub ArePreparedBelow : World → List Mark → PreparedBelow → Type 0
ArePreparedBelow w past p = (k : ℕ) → region_of p k ≡ prepared_below w k past

-- one call prepares these: under its keys the last counts, and under others what was kept
abbrev pub Prepares : List Prepared → (old new : PreparedBelow) → Type 0
Prepares ps old new = (k : ℕ) → region_of new k ≡ option_or (last_under k ps) (region_of old k)
