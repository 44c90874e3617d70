use Rattle.std.proofs.Common.{◌≡◌, map, take}
use Rattle.space_memory_laws.specs.Calls.{Holds}
use Rattle.reference_recorder_spaces.specs.Next.{Adds}
use Rattle.reference_recorder_spaces.proofs.calls.hold_all.Given as goal

abbrev pub invariant-loop-range : goal.invariant-loop-range
invariant-loop-range l = record {
  adds : Adds l.thread (map Holds (take l.range-index l.ranges)) l.fn.spaces l.spaces;
  depths : l.spaces.held.depths ≡ l.fn.spaces.held.depths;
}
