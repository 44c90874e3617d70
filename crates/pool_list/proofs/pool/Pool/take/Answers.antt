use Rattle.std.proofs.Common.{ℕ, ◌≡◌, ◌+◌, ◌<◌, ◌≤◌, List, length, subst, ap, sym, ◌∙◌, arith}
use Rattle.std.specs.Vec.{vec_len, vec_capacity}
use Rattle.pool_list.specs.declared.block.Block.{Block}
use Rattle.pool_list.specs.Blocks.{PoolState, LieBetween, with_block}
use Rattle.pool_list.specs.Places.{IsGap}
use Rattle.pool_list.proofs.Gap.{with_block_gap, lie_gap, room_for_gap}
use Rattle.pool_list.proofs.pool.Pool.take.Goals as goal

-- the gap that was found, in the pool's own list
gap_in : (pool now : PoolState) (n at addr : ℕ) → pool ≡ now → IsGap now n at addr → IsGap pool n at addr
gap_in pool now n at addr same gap = subst (λ (p : PoolState). IsGap p n at addr) (sym same) gap

-- it has room for its block, so the vector didn't have to grow
pub unreachable-requires : goal.unreachable-requires
unreachable-requires c =
    let gap = gap_in _ _ c.args.n _ _ c.self.view_is c.in_ok-at.ensures.gap in
    let kept = c.self.invariant in
    let room : length c.self.inside.blocks.items < vec_capacity c.self.inside.blocks = room_for_gap _ c.args.n _ _ c.requires gap kept.laid_out _ kept.base_aligned kept.size_aligned kept.enough_room in
    let full : vec_capacity c.self.inside.blocks ≤ vec_len c.self.inside.blocks = c.in-Err.ensures.full in
    omega (arith, c.self.inside.blocks.ok)

module _ (c : goal.In-Ok) where
  -- the list has the block in its place
  items : c.insert.new.self.items ≡ with_block c.self.inside.blocks.items (record { addr = c.in_ok-at.addr; len = c.args.n })
  items = c.in-Ok.ensures.items ∙ sym (with_block_gap _ c.args.n _ _ c.requires (gap_in _ _ c.args.n _ _ c.self.view_is c.in_ok-at.ensures.gap) c.self.invariant.laid_out)

  -- the blocks lie in order
  lie : LieBetween c.self.inside.base (c.self.inside.base + c.self.inside.size) c.insert.new.self.items
  lie = rw items (lie_gap _ c.args.n _ _ c.requires (gap_in _ _ c.args.n _ _ c.self.view_is c.in_ok-at.ensures.gap) c.self.invariant.laid_out)

pub invariant_of-self : goal.invariant_of-self
invariant_of-self c = record {
  base_aligned = c.self.invariant.base_aligned;
  size_aligned = c.self.invariant.size_aligned;
  ends = c.self.invariant.ends;
  enough_room = omega (arith, c.self.invariant.enough_room, c.in-Ok.ensures.capacity);
  laid_out = lie c;
}

pub returns-clause-taken : goal.returns-clause-taken
returns-clause-taken c =
    ap (λ (bs : List Block). let p : PoolState = record { base = c.self.inside.base; size = c.self.inside.size; blocks = bs } in p) (items c)
    ∙ ap (λ (p : PoolState). let q : PoolState = record { base = p.base; size = p.size; blocks = with_block p.blocks (record { addr = c.in_ok-at.addr; len = c.args.n }) } in q) c.self.view_is

pub returns-clause-laid_out : goal.returns-clause-laid_out
returns-clause-laid_out c = lie c
