use Rattle.std.proofs.Common.{take}
use Rattle.recorder_memory.specs.Printing.{AreRead}
use Rattle.recorder_memory.proofs.memory.Memory.print_below.Given as goal

abbrev pub invariant-loop-range : goal.invariant-loop-range
invariant-loop-range l = AreRead l.self.above.spaces l.thread (take l.range-index l.ranges) l.bytes.items
