use Rattle.std.proofs.Common.{◌-◌, ◌+◌, ◌<◌, slice_index_or, rules, arith}
use Rattle.c_types_nodes.specs.Parts.{values}
use Rattle.c_types_nodes.specs.Tables.{IsValueAt, typed_of, value_at}
use Rattle.c_lower_bodies.proofs.Weights.{value_weight, values_weight}
use Rattle.c_lower.proofs.Among.{lighter}
use Rattle.c_lower.proofs.depth.+depth.Goals as goal

pub values_depth-value_depth-requires : goal.values_depth-value_depth-requires
values_depth-value_depth-requires t c =
    let table = c.args.table.now in
    let ids = c.args.ids.now in
    let smaller : 1 + value_weight (value_at table (slice_index_or ids (c.loop-i.i - 1) (record { 0 = 0 }))) < values_weight (values (typed_of table) ids) =
    lighter table ids (c.loop-i.i - 1) (record { 0 = 0 }) (omega arith) in
    let among : IsValueAt table (slice_index_or ids (c.loop-i.i - 1) (record { 0 = 0 })) = c.requires (c.loop-i.i - 1) (record { 0 = 0 }) (omega arith) in
    search rules
