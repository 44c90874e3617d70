use Rattle.std.proofs.Common.{◌≡◌}
use Rattle.recorder_memory.specs.Answers.{PutsOuts}
use Rattle.recorder_memory.specs.Below.{LeavesSeen}
use Rattle.recorder_memory.proofs.memory.Memory.put_outs.Given as goal

abbrev pub invariant-loop-i : goal.invariant-loop-i
invariant-loop-i l = record {
  put : PutsOuts l.fn.self l.thread l.outs l.used l.fn.commit l.pieces l.i l.self;
  seen : LeavesSeen l.fn.self l.self;
  held : l.self.above.spaces.held ≡ l.fn.self.above.spaces.held;
  watch : l.self.above.watch ≡ l.fn.self.above.watch;
}
