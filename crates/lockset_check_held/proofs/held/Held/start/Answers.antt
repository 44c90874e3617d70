use Rattle.std.proofs.Common.{◌≡◌, List, ℕ, ap, ◌∙◌}
use Rattle.lockset_check_held.specs.HeldSets.{HeldSets, need_at, starting}
use Rattle.lockset_check_held.specs.Rows.{row_at}
use Rattle.lockset_check_held.proofs.Needs.{started_rows, started_sets}
use Rattle.lockset_check_held.proofs.held.Held.start.Goals as goal

pub invariant_of-self : goal.invariant_of-self
invariant_of-self c =
    let h = c.self.inside in
    let row = c.in_ok-held.held in
    let is : row ≡ row_at h.needs.items c.args.place = c.in_ok-held.ensures ∙ ap (λ (rows : List (List ℕ)). row_at rows c.args.place) c.as_slice.ensures.value in
    let e = c.new.ensures in
    started_rows h.known.keys h.trail h.needs.items c.self.invariant c.args.place row is c.new.result e.held e.start e.loops e.kept

pub returns : goal.returns
returns c =
    let h = c.self.inside in
    let row = c.in_ok-held.held in
    let is : row ≡ row_at h.needs.items c.args.place = c.in_ok-held.ensures ∙ ap (λ (rows : List (List ℕ)). row_at rows c.args.place) c.as_slice.ensures.value in
    let e = c.new.ensures in
    started_sets h.known.keys h.trail h.needs.items c.self.invariant c.args.place row is c.new.result e.held e.start e.loops e.kept
    ∙ ap (λ (x : HeldSets). starting (need_at x.needs c.args.place) x) c.self.view_is
