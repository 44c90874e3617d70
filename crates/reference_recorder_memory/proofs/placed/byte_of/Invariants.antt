use Rattle.std.proofs.Common.{◌≡◌, drop}
use Rattle.space_memory.specs.Objects.{byte_of}
use Rattle.reference_recorder_memory.proofs.placed.byte_of.Given as goal

abbrev pub invariant-loop-place : goal.invariant-loop-place
invariant-loop-place l = byte_of (drop l.place-index l.places) l.addr l.found ≡ byte_of l.places l.addr l.fn.byte
