use Rattle.std.proofs.Common.{sym, ap, ◌∙◌, Some, ◌+◌, get_or}
use Rattle.pool_list.specs.declared.block.Block.{Block}
use Rattle.pool_list.specs.Blocks.{PoolState}
use Rattle.pool_list.proofs.Order.{length_at_some}
use Rattle.pool_list.proofs.pool.Pool.length.Goals as goal

-- the block that was read is the one that begins there
pub returns-clause-length : goal.returns-clause-length
returns-clause-length c =
    let at = c.in_ok-at.ensures.found in
    let pool = c.args.self.now in
    let some = length_at_some pool.base (pool.base + pool.size) pool.blocks c.in_ok-at.ensures.laid_out c.args.addr _ c.index.result.now at.0 (at.1 c.index.result.now) in
    let read = c.index.ensures ∙ ap (λ (p : PoolState). get_or p.blocks c.in_ok-at.at c.index.result.now) c.self.view_is in
    ap (λ (b : Block). Some b.len) read ∙ sym some
