use Rattle.std.proofs.Common.{◌≡◌, List, ℕ, [], ◌∷◌, ◌++◌, rules, sym, subst, ap, ◌∙◌}
use Rattle.lockset_check_held.specs.HeldSets.{HeldSets, need_at, needing}
use Rattle.lockset_check_held.specs.Rows.{row_at}
use Rattle.lockset_check_held.specs.Trails.{AreRows, sets_by}
use Rattle.lockset_check_held.proofs.Needs.{again_rows, again_sets}
use Rattle.lockset_check_held.proofs.held.Held.need_again.Goals as goal

pub invariant_of-self-2 : goal.invariant_of-self-2
invariant_of-self-2 c =
    let h = c.self.inside in
    let row = c.in_ok-row.row in
    let is : row ≡ row_at h.needs.items c.args.place = c.in_ok-row.ensures ∙ ap (λ (rows : List (List ℕ)). row_at rows c.args.place) c.as_slice.ensures.value in
    let more : c.push.new.self.items ≡ h.needs.items ++ row ∷ [] = search rules in
    subst (λ (rows : List (List ℕ)). AreRows h.known.keys h.trail rows) (sym more)
    (again_rows h.known.keys h.trail h.needs.items c.self.invariant c.args.place row is)

pub returns : goal.returns
returns c =
    let h = c.self.inside in
    let row = c.in_ok-row.row in
    let is : row ≡ row_at h.needs.items c.args.place = c.in_ok-row.ensures ∙ ap (λ (rows : List (List ℕ)). row_at rows c.args.place) c.as_slice.ensures.value in
    let more : c.push.new.self.items ≡ h.needs.items ++ row ∷ [] = search rules in
    ap (λ (rows : List (List ℕ)). sets_by h.known.keys h.trail rows) more
    ∙ (again_sets h.known.keys h.trail h.needs.items c.self.invariant c.args.place row is
    ∙ ap (λ (x : HeldSets). needing (need_at x.needs c.args.place) x) c.self.view_is)
