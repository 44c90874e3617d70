use Rattle.std.proofs.Common.{◌≡◌, ◌+◌, ◌<◌, ◌≤◌, ℕ, List, get_or, map, ap, ◌∙◌, subst, arith}
use Rattle.std.specs.Prelude.{max}
use Rattle.std.specs.List.{list_all}
use Rattle.std.specs.BTreeSet.{contains}
use Rattle.std.proofs.Math.ListN.{set}
use Rattle.run_events.specs.declared.key.KeyMark.{KeyMark}
use Rattle.log_closure.specs.declared.grow.Grown.{Grown}
use Rattle.log_closure.specs.Ties.{key_tie, needs}
use Rattle.log_closure.specs.Tables.{tie_cmp}
use Rattle.log_closure.proofs.GrowSteps.{thread_held, grown_more}
use Rattle.log_closure.proofs.grow.Grown.join.Goals as goal

pub returns-then-not-holds_keys : goal.returns-then-not-holds_keys
returns-then-not-holds_keys c = λ part e h t n k.
    let g = c.args.self.now in
    let th : c.from-thread.result ≡ e.name.thread = c.from-thread.ensures ∙ t in
    let fits : c.from-thread.result < 256 = omega (arith, c.from-thread.ensures) in
    let fits_e : e.name.thread < 256 = omega (arith, th, fits) in
    let le : e.name.index ≤ get_or g.lengths c.from-thread.result 0 = omega (arith, n, c.if-index-length.false) in
    let le_e = subst (λ (u : ℕ). e.name.index ≤ get_or g.lengths u 0) th le in
    (c.if-not-holds_keys.ensures ∙ ap (λ (ms : List KeyMark). list_all (contains tie_cmp g.keys) (needs (map key_tie ms))) k ∙ thread_held g part e h fits_e le_e, h)

pub returns : goal.returns
returns c = λ part e h t n k.
    let g = c.args.self.now in
    let th : c.from-thread.result ≡ e.name.thread = c.from-thread.ensures ∙ t in
    let fits : c.from-thread.result < 256 = omega (arith, c.from-thread.ensures) in
    let fits_e : e.name.thread < 256 = omega (arith, th, fits) in
    let le : e.name.index ≤ get_or g.lengths c.from-thread.result 0 = omega (arith, n, c.if-index-length.false) in
    let le_e = subst (λ (u : ℕ). e.name.index ≤ get_or g.lengths u 0) th le in
    let lengths_are = ap (set g.lengths c.from-thread.result) (c.max.ensures ∙ ap (λ (i : ℕ). max (get_or g.lengths c.from-thread.result 0) (i + 1)) n) in
    let new : Grown = record { keys = c.add_keys.new.done; lengths = set g.lengths c.from-thread.result c.max.result } in (
      c.if-not-holds_keys.ensures ∙ ap (λ (ms : List KeyMark). list_all (contains tie_cmp g.keys) (needs (map key_tie ms))) k ∙ thread_held g part e h fits_e le_e,
      grown_more g new part e c.args.marks.now c.from-thread.result h th fits k le c.in_ok-add_keys.ensures lengths_are,
    )
