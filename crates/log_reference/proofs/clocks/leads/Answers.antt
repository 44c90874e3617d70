use Rattle.std.proofs.Common.{◌≡◌, ℕ, ◌+◌, ⊎_elim, sym, ap, ◌∙◌, subst}
use Rattle.run_events.specs.declared.event.EventName.{EventName}
use Rattle.log_closure.specs.Events.{In}
use Rattle.log_closure.specs.Predecessors.{next}
use Rattle.log_reference.proofs.Equal.{if_false}
use Rattle.log_reference.proofs.clocks.leads.Goals as goal
use Rattle.log_reference.proofs.clocks.leads.Goals.{else-own-name-via-then-own-name+else-from, else-own-name-via-else-own-name}

pub returns-clause-none : goal.returns-clause-none
returns-clause-none c =
    let th = ap (λ (n : EventName). n.thread) c.name_of-own.ensures in
    let ix = ap (λ (n : EventName). n.index) c.name_of-own.ensures in
    let other : c.name_of-own.result.thread ≡ c.args.name.thread → c.args.name.index ≡ c.name_of-own.result.index + 1 → ⊥ =
    elim c.else-own-name.branch [
      | else-own-name-via-then-own-name+else-from w ↦ λ t n. w.if-from.false (ap (λ (k : ℕ). k + 1) w.from.ensures ∙ sym n ∙ sym w.from-then-own-name.ensures)
      | else-own-name-via-else-own-name w ↦ λ t n. w.if-own-name.false t
    ] in
    if_false c.leads_by_key.result
    (λ none how. ⊎_elim
    (λ (t, n). other (th ∙ t) (n ∙ ap (λ (k : ℕ). k + 1) (sym ix)))
    (λ (m, i, free, own). none m (subst (In (next m)) (sym (c.as_slice-2.ensures ∙ c.unpacked-keys.ensures)) i) free (subst (In m) (sym (c.as_slice.ensures ∙ c.unpacked-earlier_keys.ensures)) own))
    how)
    c.leads_by_key.ensures.none
