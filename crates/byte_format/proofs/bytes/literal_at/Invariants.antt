use Rattle.std.proofs.Common.{◌≡◌, drop}
use Rattle.byte_format.specs.Reading.{literal_at}
use Rattle.byte_format.proofs.bytes.literal_at.Given as goal

abbrev pub invariant-loop-byte : goal.invariant-loop-byte
invariant-loop-byte l = literal_at (drop l.byte-index l.expected) l.rest ≡ literal_at l.expected l.bytes
