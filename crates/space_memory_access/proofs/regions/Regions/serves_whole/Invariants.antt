use Rattle.std.proofs.Common.{◌≡◌, ◌&&◌, drop}
use Rattle.std.specs.List.{list_any}
use Rattle.space_memory_access.specs.Holders.{serves}
use Rattle.space_memory_access.specs.Held.{is_part}
use Rattle.space_memory_access.proofs.regions.Regions.serves_whole.Given as goal

-- none of the regions so far serves the range
abbrev pub invariant-loop-region : goal.invariant-loop-region
invariant-loop-region l = list_any (λ r. serves l.thread l.write r.holder && is_part r.range l.range) l.region-items ≡ list_any (λ r. serves l.thread l.write r.holder && is_part r.range l.range) (drop l.region-index l.region-items)
