use Rattle.std.proofs.Common.{◌≡◌, map, take}
use Rattle.marks.specs.Ranges.{Piece}
use Rattle.space_memory_laws.specs.Calls.{Reads}
use Rattle.reference_recorder_spaces.specs.Next.{Adds}
use Rattle.reference_recorder_spaces.proofs.calls.read_all.Given as goal

abbrev pub invariant-loop-piece : goal.invariant-loop-piece
invariant-loop-piece l = record {
  adds : Adds l.thread (map (λ (p : Piece). Reads p.range) (take l.piece-index l.pieces)) l.fn.spaces l.spaces;
  depths : l.spaces.held.depths ≡ l.fn.spaces.held.depths;
}
