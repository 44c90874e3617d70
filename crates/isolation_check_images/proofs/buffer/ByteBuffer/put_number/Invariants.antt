use Rattle.std.proofs.Common.{ℕ, List, Option, ◌-◌}
use Rattle.marks.specs.Ranges.{bytes_of_number}
use Rattle.stub_operations.specs.Growing.{IsAdded}
use Rattle.isolation_check_images.proofs.buffer.ByteBuffer.put_number.Given as goal

-- what is left makes the whole
abbrev pub invariant-loop-place : goal.invariant-loop-place
invariant-loop-place l =
    (q : Option (List ℕ)) →
    IsAdded l.self (bytes_of_number (l.width - l._place) l.rest) q →
    IsAdded l.fn.self (bytes_of_number l.width l.value) q
