use Rattle.std.proofs.Common.{◌≡◌, ℕ, drop}
use Rattle.space_memory_bytes.specs.Areas.{byte_at, extents}
use Rattle.space_memory.specs.Objects.{byte_of}
use Rattle.space_memory.proofs.objects.put_objects.Given as goal

-- the objects from this one on are still to be put
abbrev pub invariant-loop-object : goal.invariant-loop-object
invariant-loop-object l = record {
  put : (x : ℕ) → byte_of (drop l.object-index l.objects) x (byte_at l.bytes x) ≡ byte_of l.objects x (byte_at l.fn.bytes x);
  areas : extents l.bytes ≡ extents l.fn.bytes;
}
