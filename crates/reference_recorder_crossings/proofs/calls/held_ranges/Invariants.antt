use Rattle.std.proofs.Common.{◌≡◌, ◌++◌, take}
use Rattle.marks.specs.Ranges.{prepared_ranges}
use Rattle.reference_recorder_crossings.proofs.calls.held_ranges.Given as goal

abbrev pub invariant-loop-one : goal.invariant-loop-one
invariant-loop-one l = l.held.items ≡ l.outs ++ prepared_ranges (take l.one-index l.prepared)
