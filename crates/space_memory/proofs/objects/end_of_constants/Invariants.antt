use Rattle.std.proofs.Common.{ℕ, ◌+◌, ◌<◌, ◌≤◌, length, get_or}
use Rattle.memory_map.specs.declared.placed.Place.{Place}
use Rattle.memory_map.specs.declared.areas.TheConstants.{CONSTANTS, REPLAY_GLOBALS}
use Rattle.space_memory.proofs.objects.end_of_constants.Given as goal

-- the objects so far end there, or before it
abbrev pub invariant-loop-object : goal.invariant-loop-object
invariant-loop-object l = record {
  from : CONSTANTS.addr ≤ l.end;
  to : l.end < REPLAY_GLOBALS;
  all : (k : ℕ) (d : Place) → k < l.object-index → (get_or l.objects k d).addr < REPLAY_GLOBALS → (get_or l.objects k d).addr + length (get_or l.objects k d).init ≤ l.end;
}
