use Rattle.std.proofs.Common.{length, ap, ◌∙◌}
use Rattle.std.proofs.lemmas.Result.{on_ok_weaker}
use Rattle.lockset_check_held.specs.Changes.{is_turned}
use Rattle.lockset_check_held.specs.HeldSets.{joining}
use Rattle.lockset_check_held.proofs.Sets.{both_within, joined, kept_rows, turned_rows}
use Rattle.lockset_check_held.proofs.held.Held.join.Goals as goal

pub invariant_of-self : goal.invariant_of-self
invariant_of-self c =
    let h = c.self.inside in
    kept_rows h.known.keys h.trail h.needs.items c.self.invariant c.pop.new.self (c.pop.ensures.within (length h.known.keys))

pub invariant_of-self-in_err-lost : goal.invariant_of-self-in_err-lost
invariant_of-self-in_err-lost c =
    let h = c.self.inside in
    kept_rows h.known.keys h.trail h.needs.items c.self.invariant c.pop.new.self (c.pop.ensures.within (length h.known.keys))

pub invariant_of-self-2 : goal.invariant_of-self-2
invariant_of-self-2 c =
    let h = c.self.inside in
    let known = h.known.keys in
    let lost = c.in_ok-lost.lost in
    turned_rows known (is_turned lost) (record h.trail { kept = c.pop.new.self }) c.turn_all.new.self h.needs.items
    (kept_rows known h.trail h.needs.items c.self.invariant c.pop.new.self (c.pop.ensures.within (length known)))
    (both_within (length known) h.trail.held c.in_ok-first.first lost c.in_ok-lost.ensures c.self.invariant.1.0)
    c.turn_all.ensures.within

pub returns : goal.returns
returns c =
    let h = c.self.inside in
    let e = c.in_ok-first.ensures in
    on_ok_weaker c.turn_all.result
    (λ turns. joined h.known.keys h.trail h.needs.items c.pop.new.self e.rest c.in_ok-first.first e.first c.turn_all.new.self c.self.invariant.0 c.in_ok-lost.lost c.in_ok-lost.ensures turns
    ∙ ap joining c.self.view_is)
    c.turn_all.ensures.turns
