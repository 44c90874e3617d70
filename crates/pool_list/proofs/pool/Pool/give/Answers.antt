use Rattle.std.proofs.Common.{◌≡◌, List, Some, None, false, true, subst, ap, sym, ◌∙◌}
use Rattle.pool_list.specs.declared.block.Block.{Block}
use Rattle.pool_list.specs.Blocks.{PoolState, IsAt, length_at, without_block}
use Rattle.pool_list.proofs.Order.{length_at_some, without_block_at, lie_without_block}
use Rattle.pool_list.proofs.pool.Pool.give.Goals as goal

-- the block that was found, in the pool's own list
found : (c : goal.After-remove-block) → IsAt c.self.inside.blocks.items c.args.addr c.in-Some.at
found c = subst (λ (p : PoolState). IsAt p.blocks c.args.addr c.in-Some.at) (sym c.self.view_is) c.in-Some.ensures.found

-- the list has lost the block that begins there
items : (c : goal.After-remove-block) → c.remove-block.new.self.items ≡ without_block c.self.inside.blocks.items c.args.addr
items c =
    let at = found c in
    c.remove-block.ensures.items ∙ sym (without_block_at _ _ _ c.self.invariant.laid_out c.args.addr c.in-Some.at c.remove-block.result at.0 (at.1 c.remove-block.result))

pub invariant_of-self : goal.invariant_of-self
invariant_of-self c = record {
  base_aligned = c.self.invariant.base_aligned;
  size_aligned = c.self.invariant.size_aligned;
  ends = c.self.invariant.ends;
  enough_room = rw c.remove-block.ensures.capacity c.self.invariant.enough_room;
  laid_out = rw (items c) (lie_without_block _ _ _ c.args.addr c.self.invariant.laid_out);
}

-- its length was that of the block that was taken out
length_is : (c : goal.After-remove-block) → length_at c.args.self.now.blocks c.args.addr ≡ Some c.remove-block.result.len
length_is c =
    let at = found c in
    let some = length_at_some _ _ _ c.self.invariant.laid_out c.args.addr c.in-Some.at c.remove-block.result at.0 (at.1 c.remove-block.result) in
    subst (λ (p : PoolState). length_at p.blocks c.args.addr ≡ Some c.remove-block.result.len) c.self.view_is (some ∙ ap (λ (b : Block). Some b.len) (sym c.remove-block.ensures.value))

pub returns-clause-length : goal.returns-clause-length
returns-clause-length c = length_is c

pub returns-clause-not_live : goal.returns-clause-not_live
returns-clause-not_live c = (λ (wrong : false ≡ true). absurd (cc), λ (none : length_at c.args.self.now.blocks c.args.addr ≡ None). absurd (cc (length_is c, none)))

pub returns-clause-given : goal.returns-clause-given
returns-clause-given c =
    ap (λ (bs : List Block). let p : PoolState = record { base = c.self.inside.base; size = c.self.inside.size; blocks = bs } in p) (items c)
    ∙ ap (λ (p : PoolState). let q : PoolState = record { base = p.base; size = p.size; blocks = without_block p.blocks c.args.addr } in q) c.self.view_is

pub returns-clause-laid_out : goal.returns-clause-laid_out
returns-clause-laid_out c = rw (items c) (lie_without_block _ _ _ c.args.addr c.self.invariant.laid_out)
