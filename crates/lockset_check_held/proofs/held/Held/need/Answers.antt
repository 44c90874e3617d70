use Rattle.std.proofs.Common.{◌≡◌, List, ℕ, [], ◌∷◌, ◌++◌, rules, sym, subst, ap, ◌∙◌}
use Rattle.lockset_check_rules.specs.Mutexes.{locks_of}
use Rattle.lockset_check_held.specs.HeldSets.{needing}
use Rattle.lockset_check_held.specs.Trails.{AreRows, sets_by}
use Rattle.lockset_check_held.proofs.Needs.{more_rows, needed_sets}
use Rattle.lockset_check_held.proofs.Sets.{known_rows}
use Rattle.lockset_check_held.proofs.held.Held.need.Goals as goal

pub invariant_of-self : goal.invariant_of-self
invariant_of-self c =
    let h = c.self.inside in
    let e = c.row_of.ensures in
    known_rows h.known.keys c.row_of.new.known.keys h.trail h.needs.items c.self.invariant e.learns e.known

pub invariant_of-self-in_err-push : goal.invariant_of-self-in_err-push
invariant_of-self-in_err-push c =
    let h = c.self.inside in
    let e = c.row_of.ensures in
    let same : c.push.new.self.items ≡ h.needs.items = search rules in
    subst (λ (rows : List (List ℕ)). AreRows c.row_of.new.known.keys h.trail rows) (sym same)
    (known_rows h.known.keys c.row_of.new.known.keys h.trail h.needs.items c.self.invariant e.learns e.known)

pub invariant_of-self-2 : goal.invariant_of-self-2
invariant_of-self-2 c =
    let h = c.self.inside in
    let e = c.in_ok-row.ensures in
    let more : c.push.new.self.items ≡ h.needs.items ++ c.in_ok-row.row ∷ [] = search rules in
    subst (λ (rows : List (List ℕ)). AreRows c.row_of.new.known.keys h.trail rows) (sym more)
    (more_rows c.row_of.new.known.keys h.trail h.needs.items
    (known_rows h.known.keys c.row_of.new.known.keys h.trail h.needs.items c.self.invariant e.learns e.known) c.in_ok-row.row e.row)

pub returns : goal.returns
returns c =
    let h = c.self.inside in
    let e = c.in_ok-row.ensures in
    let s = locks_of c.args.mutexes.now in
    let more : c.push.new.self.items ≡ h.needs.items ++ c.in_ok-row.row ∷ [] = search rules in
    ap (λ (rows : List (List ℕ)). sets_by c.row_of.new.known.keys h.trail rows) more
    ∙ (needed_sets h.known.keys c.row_of.new.known.keys h.trail h.needs.items c.self.invariant e.learns c.in_ok-row.row s e.set
    ∙ ap (needing s) c.self.view_is)
