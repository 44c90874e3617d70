use Rattle.std.proofs.Common.{length, ap, ◌∙◌}
use Rattle.std.proofs.lemmas.Result.{on_ok_weaker}
use Rattle.lockset_check_held.specs.Changes.{is_turned}
use Rattle.lockset_check_held.specs.HeldSets.{turning}
use Rattle.lockset_check_held.proofs.Sets.{kept_rows, taken_within, turned_back, turned_rows}
use Rattle.lockset_check_held.proofs.held.Held.turn.Goals as goal

pub invariant_of-self : goal.invariant_of-self
invariant_of-self c =
    let h = c.self.inside in
    kept_rows h.known.keys h.trail h.needs.items c.self.invariant c.pop.new.self (c.pop.ensures.within (length h.known.keys))

pub invariant_of-self-in_err-turn_all : goal.invariant_of-self-in_err-turn_all
invariant_of-self-in_err-turn_all c =
    let h = c.self.inside in
    let known = h.known.keys in
    let first = c.in_ok-first.first in
    turned_rows known (is_turned first) (record h.trail { kept = c.pop.new.self }) c.turn_all.new.self h.needs.items
    (kept_rows known h.trail h.needs.items c.self.invariant c.pop.new.self (c.pop.ensures.within (length known)))
    (taken_within (length known) h.trail.kept first c.in_ok-first.ensures.first c.self.invariant.1.3)
    c.turn_all.ensures.within

pub invariant_of-self-2 : goal.invariant_of-self-2
invariant_of-self-2 c =
    let h = c.self.inside in
    let known = h.known.keys in
    let first = c.in_ok-first.first in
    let within = taken_within (length known) h.trail.kept first c.in_ok-first.ensures.first c.self.invariant.1.3 in
    kept_rows known c.turn_all.new.self h.needs.items
    (turned_rows known (is_turned first) (record h.trail { kept = c.pop.new.self }) c.turn_all.new.self h.needs.items
    (kept_rows known h.trail h.needs.items c.self.invariant c.pop.new.self (c.pop.ensures.within (length known)))
    within c.turn_all.ensures.within)
    c.push.new.self (c.push.ensures.within (length known) within)

pub returns : goal.returns
returns c =
    let h = c.self.inside in
    let e = c.in_ok-first.ensures in
    on_ok_weaker c.push.result
    (λ more. turned_back h.known.keys h.trail h.needs.items c.pop.new.self e.rest c.in_ok-first.first e.first c.turn_all.new.self c.in_ok-turn_all.ensures.turns c.push.new.self more
    ∙ ap turning c.self.view_is)
    c.push.ensures.more
