use Rattle.std.proofs.Common.{◌≡◌, ℤ, Some, to_z, of_z, rules, sym, ap, ◌∙◌}
use Rattle.std.specs.Int.{w128}
use Rattle.std.proofs.lemmas.Result.{on_ok_weaker}
use Rattle.lockset_check_rules.specs.Mutexes.{with_lock}
use Rattle.lockset_check_held.specs.HeldSets.{HeldSets}
use Rattle.lockset_check_held.specs.Rows.{place_in}
use Rattle.lockset_check_held.proofs.Sets.{known_rows, known_sets, place_rows, taken_again_sets, taken_sets}
use Rattle.lockset_check_held.proofs.Tables.{bounded}
use Rattle.lockset_check_held.proofs.held.Held.add.Goals as goal

pub returns-then-has : goal.returns-then-has
returns-then-has c =
    let h = c.self.inside in
    let m = c.args.mutex in
    let new = c.learn.new.known.keys in
    let e = c.in_ok-place.ensures in
    let back : to_z w128 (of_z w128 m) ≡ m = search rules in
    let at : place_in m new ≡ Some c.in_ok-place.place = ap (λ (v : ℤ). place_in v new) (sym back) ∙ e.place in
    let rows = known_rows h.known.keys new h.trail h.needs.items c.self.invariant e.learns e.table in
    taken_again_sets new m c.in_ok-place.place at h.trail h.needs.items rows (sym c.has.ensures ∙ c.if-has.true)
    ∙ ap (λ (x : HeldSets). record x { held = with_lock m x.held }) (known_sets h.known.keys new h.trail h.needs.items c.self.invariant e.learns ∙ c.self.view_is)

pub returns : goal.returns
returns c =
    let h = c.self.inside in
    let m = c.args.mutex in
    let new = c.learn.new.known.keys in
    let e = c.in_ok-place.ensures in
    let back : to_z w128 (of_z w128 m) ≡ m = search rules in
    let at : place_in m new ≡ Some c.in_ok-place.place = ap (λ (v : ℤ). place_in v new) (sym back) ∙ e.place in
    let rows = known_rows h.known.keys new h.trail h.needs.items c.self.invariant e.learns e.table in
    on_ok_weaker c.turn.result
    (λ turns. taken_sets new m c.in_ok-place.place at h.trail h.needs.items rows c.turn.new.self (sym c.has.ensures ∙ c.if-has.false) turns
    ∙ ap (λ (x : HeldSets). record x { held = with_lock m x.held }) (known_sets h.known.keys new h.trail h.needs.items c.self.invariant e.learns ∙ c.self.view_is))
    c.turn.ensures.turns

pub invariant_of-self : goal.invariant_of-self
invariant_of-self c =
    let h = c.self.inside in
    known_rows h.known.keys c.learn.new.known.keys h.trail h.needs.items c.self.invariant c.learn.ensures.learns c.learn.ensures.table

pub invariant_of-self-then-has : goal.invariant_of-self-then-has
invariant_of-self-then-has c =
    let h = c.self.inside in
    known_rows h.known.keys c.learn.new.known.keys h.trail h.needs.items c.self.invariant c.learn.ensures.learns c.learn.ensures.table

pub invariant_of-self-2 : goal.invariant_of-self-2
invariant_of-self-2 c =
    let h = c.self.inside in
    let new = c.learn.new.known.keys in
    let e = c.in_ok-place.ensures in
    let p = c.in_ok-place.place in
    place_rows new _ p e.place h.trail h.needs.items (known_rows h.known.keys new h.trail h.needs.items c.self.invariant e.learns e.table)
    c.turn.new.self (bounded new _ p e.place) c.turn.ensures.within
