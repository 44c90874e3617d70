use Rattle.std.proofs.Common.{take}
use Rattle.reference_recorder_call_events.specs.Memory.{AreRead, memory_of}
use Rattle.reference_recorder_call_events.proofs.pieces.pieces.Given as goal

abbrev pub invariant-loop-i : goal.invariant-loop-i
invariant-loop-i l = AreRead (memory_of l.memory) (take l.i l.ranges) (take l.i l.used) l.pieces.items
