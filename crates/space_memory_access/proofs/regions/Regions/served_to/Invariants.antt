use Rattle.std.proofs.Common.{◌≡◌, ◌&&◌, drop}
use Rattle.std.specs.List.{list_any}
use Rattle.marks.specs.Ranges.{covers}
use Rattle.space_memory_access.specs.Holders.{serves}
use Rattle.space_memory_access.proofs.regions.Regions.served_to.Given as goal

-- none of the regions so far serves the byte
abbrev pub invariant-loop-region : goal.invariant-loop-region
invariant-loop-region l = list_any (λ r. serves l.thread l.write r.holder && covers r.range l.addr) l.region-items ≡ list_any (λ r. serves l.thread l.write r.holder && covers r.range l.addr) (drop l.region-index l.region-items)
