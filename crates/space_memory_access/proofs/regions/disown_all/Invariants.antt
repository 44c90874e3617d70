use Rattle.std.proofs.Common.{◌≡◌, ◌++◌, map, take, drop}
use Rattle.space_memory_access.specs.Held.{disown}
use Rattle.space_memory_access.proofs.regions.disown_all.Given as goal

-- the regions so far are disowned
abbrev pub invariant-loop-at : goal.invariant-loop-at
invariant-loop-at l = l.regions ≡ map (disown l.call) (take l.at l.fn.regions) ++ drop l.at l.fn.regions
