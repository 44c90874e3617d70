use Rattle.std.proofs.Common.{◌≡◌, ℕ, ◌+◌, ◌<◌, length, get_or, Some}
use Rattle.whole_runs.specs.World.{World}
use Rattle.whole_runs.specs.Memory.{real}
use Rattle.reference_recorder_marks.specs.Marks.{past}
use Rattle.reference_recorder_acts.proofs.bytes.bytes_in.Given as goal

-- the first so many bytes of the range
abbrev pub invariant-loop-offset : goal.invariant-loop-offset
invariant-loop-offset l = record {
  count : length l.bytes.items ≡ l.offset;
  each : (w : World) → w.laid.placed ≡ l.placed → (k : ℕ) → k < l.offset → real w (past l.marks) (l.range.addr + k) ≡ Some (get_or l.bytes.items k 0);
}
