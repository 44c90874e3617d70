use Rattle.std.proofs.Common.{ℕ, Option, IfSome, sym, subst, arith}
use Rattle.space_memory.specs.Sides.{SideState, pool_range, IsWithin}
use Rattle.space_memory.proofs.Ranges.{block_within}
use Rattle.space_memory.proofs.side_space.SideSpace.block.Goals as goal

pub returns-clause-in_pool : goal.returns-clause-in_pool
returns-clause-in_pool c =
    let pool = c.self.inside.pool in
    let within = block_within pool.base pool.size pool.base pool.blocks c.args.addr (omega arith) c.length.ensures.laid_out in
    subst (λ (side : SideState). IfSome c.length.result (λ len. IsWithin (pool_range side.pool) (record { addr = c.args.addr; len = len }))) c.self.view_is
    (subst (λ (o : Option ℕ). IfSome o (λ len. IsWithin (pool_range pool) (record { addr = c.args.addr; len = len }))) (sym c.length.ensures.length) within)
