use Rattle.std.proofs.Common.{length, ap, ◌∙◌}
use Rattle.std.proofs.lemmas.Result.{on_ok_weaker}
use Rattle.lockset_check_held.specs.Changes.{is_turned}
use Rattle.lockset_check_held.specs.HeldSets.{going_back}
use Rattle.lockset_check_held.proofs.Sets.{kept_rows, went_back, taken_within, turned_rows}
use Rattle.lockset_check_held.proofs.held.Held.go_back.Goals as goal

pub invariant_of-self : goal.invariant_of-self
invariant_of-self c =
    let h = c.self.inside in
    kept_rows h.known.keys h.trail h.needs.items c.self.invariant c.pop.new.self (c.pop.ensures.within (length h.known.keys))

pub invariant_of-self-2 : goal.invariant_of-self-2
invariant_of-self-2 c =
    let h = c.self.inside in
    let known = h.known.keys in
    let first = c.in_ok-first.first in
    turned_rows known (is_turned first) (record h.trail { kept = c.pop.new.self }) c.turn_all.new.self h.needs.items
    (kept_rows known h.trail h.needs.items c.self.invariant c.pop.new.self (c.pop.ensures.within (length known)))
    (taken_within (length known) h.trail.kept first c.in_ok-first.ensures.first c.self.invariant.1.3)
    c.turn_all.ensures.within

pub returns : goal.returns
returns c =
    let h = c.self.inside in
    let e = c.in_ok-first.ensures in
    on_ok_weaker c.turn_all.result
    (λ turns. went_back h.known.keys h.trail h.needs.items c.pop.new.self e.rest c.in_ok-first.first e.first c.turn_all.new.self turns ∙ ap going_back c.self.view_is)
    c.turn_all.ensures.turns
