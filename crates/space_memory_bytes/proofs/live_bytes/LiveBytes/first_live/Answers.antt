use Rattle.std.proofs.Common.{ℕ, ◌≤◌, List, sym, subst, ◌∙◌, arith}
use Rattle.space_memory_bytes.specs.Areas.{AreaState, RiseFrom, extents, IsDead}
use Rattle.space_memory_bytes.specs.AreaChanges.{IsLiveIn}
use Rattle.space_memory_bytes.specs.Nexts.{IsNext}
use Rattle.space_memory_bytes.proofs.Nexts.{none_of_all, next_of_all}
use Rattle.space_memory_bytes.proofs.live_bytes.LiveBytes.first_live.Goals as goal

-- the first area with one tells
pub returns-in-Some : goal.returns-in-Some
returns-in-Some c =
    let items = c.deref-area-items.result.now in
    let at = c.loop-area.area-index in
    let same = c.deref-area-items.ensures.value in
    let rise = subst (λ (areas : List AreaState). RiseFrom 0 (extents areas)) (sym same) c.self.invariant in
    subst (λ (areas : List AreaState). IsNext (λ x. ¬ IsDead areas x) c.args.from c.in-Some.addr) (same ∙ c.self.view_is)
    (next_of_all items c.args.from rise at c.in-Some.addr c.area-item.result c.loop-area-test.true c.loop-area.invariant (subst (λ (a : AreaState). IsNext (IsLiveIn a) c.args.from c.in-Some.addr) c.area-item.is c.in-Some.ensures))

-- or none has one
pub returns : goal.returns
returns c =
    let items = c.deref-area-items.result.now in
    subst (λ (areas : List AreaState). (y : ℕ) → c.args.from ≤ y → (IsDead areas y → ⊥) → ⊥) (c.deref-area-items.ensures.value ∙ c.self.view_is)
    (none_of_all items c.args.from (λ i d lt. c.loop-area.invariant i d (omega (arith, lt))))
