use Rattle.std.proofs.Common.{◌≡◌, drop}
use Rattle.reference_recorder_places.specs.Tests.{meets_any}
use Rattle.reference_recorder_places.proofs.places.meets_any.Given as goal

abbrev pub invariant-loop-block : goal.invariant-loop-block
invariant-loop-block l = meets_any (drop l.block-index l.blocks) l.at l.size ≡ meets_any l.blocks l.at l.size
