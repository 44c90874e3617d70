use Rattle.std.proofs.Common.{◌≡◌, drop}
use Rattle.marks.specs.Ranges.{any_prepared}
use Rattle.reference_recorder_marks.proofs.ranges.any_prepared.Given as goal

abbrev pub invariant-loop-one : goal.invariant-loop-one
invariant-loop-one l = any_prepared (drop l.one-index l.prepared) l.addr ≡ any_prepared l.prepared l.addr
