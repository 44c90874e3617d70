use Rattle.std.proofs.lemmas.List.Filters.{dedup_is}
use Rattle.lockset_check_order.proofs.Sorting.{sorted}
use Rattle.lockset_check_order.proofs.order.in_order.Goals as goal

pub returns : goal.returns
returns c =
    rw (dedup_is _ _ _ c.dedup.ensures.filtered) (sorted c.args.found.items c.sort.new.self.items c.in_ok-sort.ensures.permutation c.in_ok-sort.ensures.sorted)
