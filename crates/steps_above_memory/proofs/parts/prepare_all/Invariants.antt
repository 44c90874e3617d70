use Rattle.std.proofs.Common.{◌≡◌, map, take}
use Rattle.space_memory_laws.specs.Calls.{prepared_part}
use Rattle.steps_above_memory.specs.Parts.{Adds, regions_under}
use Rattle.steps_above_memory.proofs.parts.prepare_all.Given as goal

abbrev pub invariant-loop-at : goal.invariant-loop-at
invariant-loop-at l = record {
  adds : Adds l.thread (map prepared_part (take l.at (regions_under l.under l.ranges))) l.watch l.fn.spaces l.spaces;
  depths : l.spaces.held.depths ≡ l.fn.spaces.held.depths;
}
