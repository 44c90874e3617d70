use Rattle.std.proofs.Common.{◌≡◌, ℕ, drop}
use Rattle.space_memory_bytes.specs.Areas.{byte_at, extents}
use Rattle.space_memory.specs.Frames.{with_args}
use Rattle.space_memory.proofs.frames.write_args.Given as goal

-- the arguments from this one on are still to be set
abbrev pub invariant-loop-at : goal.invariant-loop-at
invariant-loop-at l = record {
  set : (x : ℕ) → with_args l.frame.addr (drop l.at l.offsets) (drop l.at l.widths) (drop l.at l.args) x (byte_at l.bytes x) ≡ with_args l.frame.addr l.offsets l.widths l.args x (byte_at l.fn.bytes x);
  areas : extents l.bytes ≡ extents l.fn.bytes;
}
