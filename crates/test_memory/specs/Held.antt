-- What a script's calls hold.
use Rattle.std.specs.Prelude.{List, map}
use Rattle.space_memory_access.specs.declared.holder.Holder.{Holder}
use Rattle.space_memory_access.specs.declared.holder.Region.{Region}

-- who holds each region
abbrev pub holders_of : List Region → List Holder
holders_of regions = map (λ r. r.holder) regions
