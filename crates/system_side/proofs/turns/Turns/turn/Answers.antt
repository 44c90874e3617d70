use Rattle.std.proofs.Common.{◌≡◌, ℕ, ◌-◌, ltb, true, false, List, length, get_or, sym, ap, subst, ◌∙◌, arith, rules, tests}
use Rattle.std.specs.List.Sorted.{IsPartitionedBy, IsPartitionPoint}
use Rattle.std.proofs.lemmas.List.{get_or_default}
use Rattle.std.proofs.lemmas.List.Sorted.{IsPartitionPoint-from_clause}
use Rattle.system_side.proofs.Rounds.{found_at, lasts_part, kept_length}
use Rattle.system_side.proofs.turns.Turns.turn.Goals as goal

-- the search ends at the first item that doesn't end before the step
pub returns : goal.returns
returns c =
    let kept = c.self.invariant in
    let xs = c.self.inside.items.items in
    let at = c.partition_point.result in
    let place = c.place_in_round-place.result in
    let parted = subst (λ (zs : List ℕ). IsPartitionedBy (λ y. ltb y place) zs) (sym (c.deref.ensures.value ∙ kept.lasts_are)) (lasts_part 0 xs place) in
    let parts = IsPartitionPoint-from_clause (λ y. ltb y place) _ _ c.partition_point.ensures.partitioned parted (λ a r q k. search (rules, tests)) in
    let in_lasts = subst (λ (zs : List ℕ). IsPartitionPoint (λ y. ltb y place ≡ true) (λ y. ltb y place ≡ false) zs at) c.deref.ensures.value parts in
    let end : c.len.result - 1 ≡ length xs - 1 = omega (arith, c.len.ensures, c.self.inside.lasts.ok.0, kept_length _ _ kept) in
    let last : c.index-last.result.now ≡ get_or c.self.inside.lasts.items (length xs - 1) c.index-last.result.now = c.index-last.ensures ∙ ap (λ k. get_or c.self.inside.lasts.items k c.index-last.result.now) end in
    let found = found_at xs c.self.inside.lasts.items kept c.args.step c.index-last.result.now place at (omega arith) last c.place_in_round-place.ensures in_lasts in
    rw (← c.self.view_is) (record { inside = found.inside; item = λ d. found.item (get_or xs at d) (get_or_default xs at d _ found.inside) })
