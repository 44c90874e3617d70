use Rattle.std.proofs.Common.{◌≡◌, ◌++◌, replicate}
use Rattle.reference_recorder_acts.proofs.frame_bytes.push_zeros.Given as goal

abbrev pub invariant-loop-zero : goal.invariant-loop-zero
invariant-loop-zero l = l.bytes.items ≡ l.fn.bytes.items ++ replicate l._zero 0
