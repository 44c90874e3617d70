use Rattle.pool_list.proofs.Gap.{Passed}
use Rattle.pool_list.proofs.pool.Pool.first_gap.Given as goal

abbrev pub invariant-loop-at : goal.invariant-loop-at
invariant-loop-at l = Passed (record { base = l.self-inside.base; size = l.self-inside.size; blocks = l.block-items }) l.n l.at l.addr
