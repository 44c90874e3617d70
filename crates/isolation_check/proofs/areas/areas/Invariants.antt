use Rattle.std.proofs.Common.{◌≡◌, map}
use Rattle.std.specs.List.{range_with_len}
use Rattle.isolation_check.specs.Areas.{area_at}
use Rattle.isolation_check.proofs.areas.areas.Given as goal

-- those so far have their areas
abbrev pub invariant-loop-place : goal.invariant-loop-place
invariant-loop-place l = l.areas.items ≡ map (area_at l.mentions.functions l.sides.above.now l.sides.below.now) (range_with_len 0 l.place)
