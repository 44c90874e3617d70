use Rattle.std.proofs.Common.{◌+◌, rules}
use Rattle.std.proofs.lemmas.List.Sorted.{answers_always}
use Rattle.pool_list.proofs.Order.{searched}
use Rattle.pool_list.proofs.pool.Pool.search.Goals as goal

-- the closure gives a block's address, and the slice is the pool's blocks
pub returns : goal.returns
returns c =
    let facts = c.binary_search_by_key.ensures in
    let by_key = facts.position (λ b. b.addr) (answers_always _ _ _ (λ f a r g called. search rules)) in
    let base = c.self.inside.base in
    let parts = searched base (base + c.self.inside.size) _ (rw c.deref.ensures.value c.self.invariant.laid_out) c.args.addr _ facts.bound by_key in
    rw (← c.self.view_is, c.ok.ensures.value, ← c.deref.ensures.value) (record { found = parts.found; absent = parts.absent; laid_out = rw c.deref.ensures.value c.self.invariant.laid_out })
