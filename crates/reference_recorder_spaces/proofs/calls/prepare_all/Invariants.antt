use Rattle.std.proofs.Common.{◌≡◌, map, take}
use Rattle.space_memory_laws.specs.Calls.{prepared_part}
use Rattle.reference_recorder_spaces.specs.Next.{Adds}
use Rattle.reference_recorder_spaces.proofs.calls.prepare_all.Given as goal

abbrev pub invariant-loop-region : goal.invariant-loop-region
invariant-loop-region l = record {
  adds : Adds l.thread (map prepared_part (take l.region-index l.prepared)) l.fn.spaces l.spaces;
  depths : l.spaces.held.depths ≡ l.fn.spaces.held.depths;
}
