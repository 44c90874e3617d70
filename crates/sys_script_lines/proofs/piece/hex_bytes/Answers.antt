use Rattle.std.proofs.Common.{sym, ◌∙◌}
use Rattle.std.specs.Vec.{vec_capacity, vec_len}
use Rattle.sys_script_lines.proofs.Hex.{hex_pushed, room_kept}
use Rattle.sys_script_lines.proofs.piece.hex_bytes.Goals as goal

pub loop-rest-preserved : goal.loop-rest-preserved
loop-rest-preserved c =
    let some = c.in-len2-up.len_at_least in
    record {
      room = room_kept c.loop-rest.rest.now (vec_len c.loop-rest.bytes) (vec_capacity c.loop-rest.bytes) (vec_len c.push_reserved.new.self) (vec_capacity c.push_reserved.new.self) some c.loop-rest.invariant.room c.push_reserved.ensures.len c.push_reserved.ensures.capacity;
      read =
          hex_pushed c.push_reserved.new.self.items c.loop-rest.bytes.items c.loop-rest.rest.now c.in-Some.byte c.push_reserved.ensures.items some (sym c.in-Some.ensures)
          ∙ c.loop-rest.invariant.read;
    }
