use Rattle.std.proofs.Common.{◌≡◌, take}
use Rattle.recorder_memory.specs.Below.{WritesAll, targets_of}
use Rattle.recorder_memory.proofs.memory.Memory.answer_below.Given as goal

abbrev pub invariant-loop-i : goal.invariant-loop-i
invariant-loop-i l = record {
  written : WritesAll l.fn.self l.thread (targets_of (take l.i l.targets)) (take l.i l.pieces) l.self;
  watch : l.self.above.watch ≡ l.fn.self.above.watch;
}
