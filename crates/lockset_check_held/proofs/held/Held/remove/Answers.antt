use Rattle.std.proofs.Common.{◌≡◌, ℤ, Some, None, to_z, of_z, rules, sym, ap, ◌∙◌}
use Rattle.std.specs.Int.{w128}
use Rattle.std.proofs.lemmas.Result.{on_ok_weaker}
use Rattle.lockset_check_rules.specs.Mutexes.{without_lock}
use Rattle.lockset_check_held.specs.HeldSets.{HeldSets}
use Rattle.lockset_check_held.specs.Rows.{place_in}
use Rattle.lockset_check_held.proofs.Sets.{given_again_sets, given_sets, place_rows, unknown_sets}
use Rattle.lockset_check_held.proofs.Tables.{bounded}
use Rattle.lockset_check_held.proofs.held.Held.remove.Goals as goal

pub returns-in_default : goal.returns-in_default
returns-in_default c =
    let h = c.self.inside in
    let m = c.args.mutex in
    let known = h.known.keys in
    let back : to_z w128 (of_z w128 m) ≡ m = search rules in
    let none : c.place_of.result ≡ None = search rules in
    let off : place_in m known ≡ None = ap (λ (v : ℤ). place_in v known) (sym back) ∙ (sym c.place_of.ensures ∙ none) in
    sym c.self.view_is
    ∙ (unknown_sets known h.trail h.needs.items m c.self.invariant off
    ∙ ap (λ (x : HeldSets). record x { held = without_lock m x.held }) c.self.view_is)

pub returns-then-not-has : goal.returns-then-not-has
returns-then-not-has c =
    let h = c.self.inside in
    let m = c.args.mutex in
    let known = h.known.keys in
    let p = c.in-Some.place in
    let back : to_z w128 (of_z w128 m) ≡ m = search rules in
    let at : place_in m known ≡ Some p = ap (λ (v : ℤ). place_in v known) (sym back) ∙ sym c.in-Some.ensures in
    sym c.self.view_is
    ∙ (given_again_sets known m p at h.trail h.needs.items c.self.invariant (sym c.has.ensures ∙ c.if-not-has.true)
    ∙ ap (λ (x : HeldSets). record x { held = without_lock m x.held }) c.self.view_is)

pub returns : goal.returns
returns c =
    let h = c.self.inside in
    let m = c.args.mutex in
    let known = h.known.keys in
    let p = c.in-Some.place in
    let back : to_z w128 (of_z w128 m) ≡ m = search rules in
    let at : place_in m known ≡ Some p = ap (λ (v : ℤ). place_in v known) (sym back) ∙ sym c.in-Some.ensures in
    on_ok_weaker c.turn.result
    (λ turns. given_sets known m p at h.trail h.needs.items c.self.invariant c.turn.new.self (sym c.has.ensures ∙ c.if-not-has.false) turns
    ∙ ap (λ (x : HeldSets). record x { held = without_lock m x.held }) c.self.view_is)
    c.turn.ensures.turns

pub invariant_of-self : goal.invariant_of-self
invariant_of-self c =
    let h = c.self.inside in
    let known = h.known.keys in
    let p = c.in-Some.place in
    place_rows known _ p (sym c.in-Some.ensures) h.trail h.needs.items c.self.invariant c.turn.new.self (bounded known _ p (sym c.in-Some.ensures)) c.turn.ensures.within
