use Rattle.std.proofs.Common.{◌+◌, ◌%◌, ◌<◌, ◌≤◌, ◌≡◌, get_or, length, arith}
use Rattle.pool_list.specs.Blocks.{end_of}
use Rattle.pool_list.proofs.Order.{lie_ends}
use Rattle.pool_list.proofs.Gap.{no_block, passed_none, left_at, gap_before, passed_more, gap_at_end, no_gap}
use Rattle.pool_list.proofs.pool.Pool.first_gap.Goals as goal

pub loop-at-init : goal.loop-at-init
loop-at-init c = passed_none _ _ c.self.invariant.base_aligned (rw c.deref-block-items.ensures.value c.self.invariant.laid_out)

pub overflow_sub-block : goal.overflow_sub-block
overflow_sub-block c = (left_at _ _ _ _ c.loop-at.invariant c.loop-at-test.true).0

-- the block at the walk's place begins after n bytes
pub returns-then-block-addr-clause-gap : goal.returns-then-block-addr-clause-gap
returns-then-block-addr-clause-gap c =
    let b = get_or c.deref-block-items.result.now c.loop-at.at no_block in
    let lie = left_at _ _ _ _ c.loop-at.invariant c.loop-at-test.true in
    let room : c.loop-at.addr + c.args.n ≤ b.addr = omega (arith, lie.0) in
    rw (← c.self.view_is, ← c.deref-block-items.ensures.value) (gap_before _ _ _ _ c.loop-at.invariant c.loop-at-test.true room)

pub overflow_add-block : goal.overflow_add-block
overflow_add-block c =
    let b = get_or c.deref-block-items.result.now c.loop-at.at no_block in
    let lie = left_at _ _ _ _ c.loop-at.invariant c.loop-at-test.true in
    let ends : end_of b ≤ c.self.inside.base + c.self.inside.size = lie_ends _ _ _ lie.3 in
    omega (arith, c.self.invariant.ends)

pub next_multiple_of-addr-requires-clause-fits : goal.next_multiple_of-addr-requires-clause-fits
next_multiple_of-addr-requires-clause-fits c =
    let b = get_or c.deref-block-items.result.now c.loop-at.at no_block in
    let lie = left_at _ _ _ _ c.loop-at.invariant c.loop-at-test.true in
    let ends : end_of b ≤ c.self.inside.base + c.self.inside.size = lie_ends _ _ _ lie.3 in
    omega (arith, c.self.invariant.ends, c.self.invariant.base_aligned, c.self.invariant.size_aligned)

pub loop-at-preserved : goal.loop-at-preserved
loop-at-preserved c =
    let b = get_or c.deref-block-items.result.now c.loop-at.at no_block in
    let lie = left_at _ _ _ _ c.loop-at.invariant c.loop-at-test.true in
    let next = c.next_multiple_of-addr.result in
    let ends : (c.self.inside.base + c.self.inside.size) % 16 ≡ 0 = omega (arith, c.self.invariant.base_aligned, c.self.invariant.size_aligned) in
    let short : b.addr < c.loop-at.addr + c.args.n = omega (arith, lie.0) in
    let aligned : next % 16 ≡ 0 = omega (arith, c.next_multiple_of-addr.ensures.value) in
    let following : end_of b ≤ next = omega (arith, c.next_multiple_of-addr.ensures.value) in
    let near : next < end_of b + 16 = omega (arith, c.next_multiple_of-addr.ensures.value) in
    passed_more _ _ _ _ c.loop-at.invariant next c.loop-at-test.true ends short aligned following near

-- n bytes fit after the last block
pub returns-then-end-addr-clause-gap : goal.returns-then-end-addr-clause-gap
returns-then-end-addr-clause-gap c =
    let all : length c.deref-block-items.result.now ≤ c.loop-at.at = c.loop-at-test.false in
    let in_list : c.loop-at.at ≤ length c.deref-block-items.result.now = c.loop-at.auto.at-end in
    let lie = lie_ends _ _ _ c.loop-at.invariant.left in
    let room : c.loop-at.addr + c.args.n ≤ c.self.inside.base + c.self.inside.size = omega arith in
    let place : c.len.result ≡ c.loop-at.at = omega (arith, c.len.ensures, c.deref-block-items.ensures.len) in
    rw (place, ← c.self.view_is, ← c.deref-block-items.ensures.value) (gap_at_end _ _ _ _ c.loop-at.invariant all in_list room)

-- they fit nowhere
pub returns-else-end-addr-clause-none : goal.returns-else-end-addr-clause-none
returns-else-end-addr-clause-none c =
    let short : c.self.inside.base + c.self.inside.size < c.loop-at.addr + c.args.n = omega arith in
    let none = no_gap _ _ _ _ c.loop-at.invariant short in
    rw (← c.self.view_is, ← c.deref-block-items.ensures.value) none
