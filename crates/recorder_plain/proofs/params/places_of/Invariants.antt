-- The places so far, with those of the parameters to come, are all.
use Rattle.recorder_plain.proofs.PlacesSoFar.{AreSoFar}
use Rattle.recorder_plain.proofs.params.places_of.Given as goal

abbrev pub invariant-loop-shape : goal.invariant-loop-shape
invariant-loop-shape l = AreSoFar l.params l.shape-index l.end l.places.offsets.items l.places.widths.items
