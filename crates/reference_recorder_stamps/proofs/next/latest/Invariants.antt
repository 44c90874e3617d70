use Rattle.std.proofs.Common.{◌≡◌, max, drop}
use Rattle.reference_recorder_marks.specs.Marks.{past}
use Rattle.reference_recorder_stamps.specs.Numbers.{latest}
use Rattle.reference_recorder_stamps.proofs.next.latest.Given as goal

abbrev pub invariant-loop-key : goal.invariant-loop-key
invariant-loop-key l = max (latest (past l.marks) l.thread (drop l.key-index l.keys)) l.clock ≡ latest (past l.marks) l.thread l.keys
