use Rattle.std.proofs.Common.{◌≡◌, drop}
use Rattle.space_memory_access.specs.Held.{prepared_region}
use Rattle.space_memory_access.proofs.regions.Regions.prepared.Given as goal

-- none of the regions so far is prepared under the key
abbrev pub invariant-loop-region : goal.invariant-loop-region
invariant-loop-region l = prepared_region l.region-items l.key ≡ prepared_region (drop l.region-index l.region-items) l.key
