use Rattle.std.proofs.Common.{◌≡◌, map, take}
use Rattle.space_memory_laws.specs.Calls.{held_part}
use Rattle.steps_above_memory.specs.Parts.{Adds}
use Rattle.steps_above_memory.proofs.parts.hold_all.Given as goal

abbrev pub invariant-loop-range : goal.invariant-loop-range
invariant-loop-range l = record {
  adds : Adds l.thread (map (held_part l.write) (take l.range-index l.ranges)) l.watch l.fn.spaces l.spaces;
  depths : l.spaces.held.depths ≡ l.fn.spaces.held.depths;
}
