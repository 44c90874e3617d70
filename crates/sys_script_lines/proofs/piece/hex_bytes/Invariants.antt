use Rattle.std.proofs.Common.{◌≡◌, ◌≤◌, ◌+◌, ◌/◌, length}
use Rattle.std.specs.Vec.{vec_capacity, vec_len}
use Rattle.sys_script_lines.specs.Pieces.{hex_bytes}
use Rattle.sys_script_lines.proofs.Joined.{joined}
use Rattle.sys_script_lines.proofs.piece.hex_bytes.Given as goal

abbrev pub invariant-loop-rest : goal.invariant-loop-rest
invariant-loop-rest l = record {
  room : vec_len l.bytes + length l.rest / 2 ≤ vec_capacity l.bytes;
  read : joined l.bytes.items (hex_bytes l.rest) ≡ hex_bytes l.digits;
}

abbrev pub decreases-loop-rest : goal.decreases-loop-rest
decreases-loop-rest l = length l.rest
