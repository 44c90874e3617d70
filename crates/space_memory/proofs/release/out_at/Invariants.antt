use Rattle.std.proofs.Common.{◌≡◌, drop}
use Rattle.std.specs.Prelude.{slice_get}
use Rattle.space_memory.specs.Releases.{outs_of}
use Rattle.space_memory.proofs.release.out_at.Given as goal

-- the region is one of those from this one on
abbrev pub invariant-loop-region : goal.invariant-loop-region
invariant-loop-region l = slice_get (outs_of l.call l.regions) l.place ≡ slice_get (outs_of l.call (drop l.region-index l.regions)) l.left
