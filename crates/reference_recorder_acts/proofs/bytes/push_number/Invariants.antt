use Rattle.std.proofs.Common.{◌≡◌, ◌++◌, ◌-◌}
use Rattle.marks.specs.Ranges.{bytes_of_number}
use Rattle.reference_recorder_acts.proofs.bytes.push_number.Given as goal

-- the bytes so far, with those of what is left of the number
abbrev pub invariant-loop-place : goal.invariant-loop-place
invariant-loop-place l = l.bytes.items ++ bytes_of_number (l.width - l._place) l.rest ≡ l.fn.bytes.items ++ bytes_of_number l.width l.value
