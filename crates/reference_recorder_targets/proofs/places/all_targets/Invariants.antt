use Rattle.std.proofs.Common.{◌≡◌, map, take}
use Rattle.whole_runs.specs.Below.{To}
use Rattle.reference_recorder_targets.specs.Places.{targets_of}
use Rattle.reference_recorder_targets.proofs.places.all_targets.Given as goal

abbrev pub invariant-loop-range : goal.invariant-loop-range
invariant-loop-range l = targets_of l.targets.items ≡ map To (take l.range-index l.outs)
