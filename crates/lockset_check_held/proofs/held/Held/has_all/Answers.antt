use Rattle.std.proofs.Common.{List, ℕ, length, sym, subst, ap, ◌∙◌}
use Rattle.lockset_check_rules.specs.Mutexes.{are_held}
use Rattle.lockset_check_held.specs.HeldSets.{HeldSets, need_at}
use Rattle.lockset_check_held.specs.Rows.{AreWithin, set_of, sets_of}
use Rattle.lockset_check_held.proofs.Needs.{needs_held}
use Rattle.lockset_check_held.proofs.held.Held.has_all.Goals as goal

pub returns : goal.returns
returns c =
    let h = c.self.inside in
    let w = c.self.invariant in
    let known = h.known.keys in
    let rows = c.as_slice.ensures.value in
    needs_held known h.trail.held c.as_slice.result.now c.args.place c.has_all_at.result w.0 (subst (AreWithin (length known)) (sym rows) w.2) c.has_all_at.ensures.all c.has_all_at.ensures.others
    ∙ (ap (λ (rs : List (List ℕ)). are_held (need_at (sets_of known rs) c.args.place) (set_of known h.trail.held)) rows
    ∙ ap (λ (sets : HeldSets). are_held (need_at sets.needs c.args.place) sets.held) c.self.view_is)
