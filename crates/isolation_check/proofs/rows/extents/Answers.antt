use Rattle.std.proofs.Common.{arith}
use Rattle.isolation_check.proofs.Places.{small_at}
use Rattle.isolation_check.proofs.rows.extents.Goals as goal

pub extent-requires-clause-small : goal.extent-requires-clause-small
extent-requires-clause-small c =
    small_at c.args.structs.now c.args.types.now c.args.globals.now c.loop-global.global-index c.global-item.result (omega arith) c.global-item.is c.requires.small
