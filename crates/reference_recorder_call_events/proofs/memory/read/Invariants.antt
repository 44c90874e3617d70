use Rattle.std.proofs.Common.{◌≡◌, length}
use Rattle.reference_recorder_call_events.specs.Memory.{memory_of}
use Rattle.reference_recorder_call_events.proofs.Loops.{Show}
use Rattle.reference_recorder_call_events.proofs.memory.read.Given as goal

abbrev pub invariant-loop-offset : goal.invariant-loop-offset
invariant-loop-offset l = record {
  counted : length l.bytes.items ≡ l.offset;
  shown : Show (memory_of l.memory) l.at l.bytes.items l.offset;
}
