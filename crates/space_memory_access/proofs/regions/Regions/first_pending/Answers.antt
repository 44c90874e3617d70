use Rattle.std.proofs.Common.{ℕ, ◌+◌, Option, take, ap, sym, ◌∙◌, subst}
use Rattle.marks.specs.Ranges.{IsInRange, IsFirstIn}
use Rattle.space_memory_access.specs.declared.holder.Region.{Region}
use Rattle.space_memory_access.specs.Holders.{is_pending}
use Rattle.space_memory_access.specs.Held.{IsPending}
use Rattle.space_memory_access.proofs.Firsts.{pending_more, pending_same}
use Rattle.space_memory_access.proofs.regions.Regions.first_pending.Goals as goal
use Rattle.space_memory_access.proofs.regions.Regions.first_pending.Goals.{then-is_pending, else-is_pending}

-- one region more has been looked at
pub loop-region-preserved : goal.loop-region-preserved
loop-region-preserved c =
    let items = c.deref-region-items.result.now in
    let at = c.loop-region.region-index in
    let item = c.region-item.result in
    let asked = ap (λ (r : Region). is_pending r.holder) (sym c.region-item.is) ∙ sym c.is_pending.ensures in
    elim c.if-is_pending.branch [
      | then-is_pending w ↦
          let here = subst (λ (r : Region). IsFirstIn c.args.range (IsInRange r.range) w.first_common.result) c.region-item.is w.first_common.ensures in
          subst (λ (f : Option ℕ). IsFirstIn c.args.range (IsPending (take (at + 1) items)) f) (sym (w.first-is ∙ w.earlier-first.ensures))
          (pending_more items at item c.args.range c.loop-region.first w.first_common.result c.loop-region-test.true (asked ∙ w.if-is_pending.true) c.loop-region.invariant here)
      | else-is_pending w ↦
          subst (λ (f : Option ℕ). IsFirstIn c.args.range (IsPending (take (at + 1) items)) f) (sym w.first-is)
          (pending_same items at item c.args.range c.loop-region.first c.loop-region-test.true (asked ∙ w.if-is_pending.false) c.loop-region.invariant)
    ]
