use Rattle.std.proofs.Common.{◌≡◌, drop}
use Rattle.marks.specs.Ranges.{any_range}
use Rattle.reference_recorder_marks.proofs.ranges.any_range.Given as goal

abbrev pub invariant-loop-range : goal.invariant-loop-range
invariant-loop-range l = any_range (drop l.range-index l.ranges) l.addr ≡ any_range l.ranges l.addr
