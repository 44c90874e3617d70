use Rattle.std.proofs.Common.{◌≡◌, take}
use Rattle.marks.specs.Ranges.{prepared_ranges}
use Rattle.recorder_calls.proofs.calling.put_ranges.Given as goal

abbrev pub invariant-loop-prepared : goal.invariant-loop-prepared
invariant-loop-prepared l = l.ranges.items ≡ prepared_ranges (take l.prepared-index l.prepares)
