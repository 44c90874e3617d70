use Rattle.std.proofs.Common.{ℕ, ◌<◌}
use Rattle.recorder_memory.specs.Answers.{regions_of}
use Rattle.recorder_memory.proofs.Filled.{IsFilledAt}
use Rattle.recorder_memory.proofs.answers.first_spoiled.Given as goal

abbrev pub invariant-loop-i : goal.invariant-loop-i
invariant-loop-i l = (k : ℕ) → k < l.i → IsFilledAt l.spaces.bytes (regions_of l.spaces l.thread) l.used k
