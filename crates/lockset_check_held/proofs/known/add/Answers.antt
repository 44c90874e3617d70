use Rattle.std.proofs.Common.{◌≡◌, ℤ, true, false, Some, length, to_z, of_z, rules, sym, ap, ◌∙◌}
use Rattle.std.specs.Int.{w128}
use Rattle.std.proofs.lemmas.Result.{on_ok_weaker}
use Rattle.lockset_check_held.specs.Rows.{is_on, place_in}
use Rattle.lockset_check_held.proofs.Tables.{added_here, bounded, not_added_here, place_within, still_within}
use Rattle.lockset_check_held.proofs.known.add.Goals as goal

pub returns-then-has-clause-done : goal.returns-then-has-clause-done
returns-then-has-clause-done c =
    let m = c.args.mutex in
    let old = c.args.known.now.keys in
    let new = c.learn.new.known.keys in
    let e = c.in_ok-place.ensures in
    let back : to_z w128 (of_z w128 m) ≡ m = search rules in
    let at : place_in m new ≡ Some c.in_ok-place.place = ap (λ (v : ℤ). place_in v new) (sym back) ∙ e.place in
    let on : is_on c.args.row.now c.in_ok-place.place ≡ true = sym c.has.ensures ∙ c.if-has.true in
    not_added_here old new e.table e.learns m c.in_ok-place.place at c.args.row.now c.requires.row on

pub returns-clause-done : goal.returns-clause-done
returns-clause-done c =
    let m = c.args.mutex in
    let old = c.args.known.now.keys in
    let new = c.learn.new.known.keys in
    let e = c.in_ok-place.ensures in
    let back : to_z w128 (of_z w128 m) ≡ m = search rules in
    let at : place_in m new ≡ Some c.in_ok-place.place = ap (λ (v : ℤ). place_in v new) (sym back) ∙ e.place in
    let off : is_on c.args.row.now c.in_ok-place.place ≡ false = sym c.has.ensures ∙ c.if-has.false in
    on_ok_weaker c.turn.result (added_here old new e.table e.learns m c.in_ok-place.place at c.args.row.now c.requires.row c.turn.new.self off) c.turn.ensures.done

pub returns-then-has-clause-row : goal.returns-then-has-clause-row
returns-then-has-clause-row c =
    let e = c.in_ok-place.ensures in
    still_within c.args.known.now.keys c.learn.new.known.keys e.table e.learns _ c.in_ok-place.place e.place c.args.row.now c.requires.row

pub returns-clause-row : goal.returns-clause-row
returns-clause-row c =
    let old = c.args.known.now.keys in
    let new = c.learn.new.known.keys in
    let e = c.in_ok-place.ensures in
    c.turn.ensures.within (length new) (place_within (length new) c.in_ok-place.place (bounded new _ c.in_ok-place.place e.place))
    (still_within old new e.table e.learns _ c.in_ok-place.place e.place c.args.row.now c.requires.row)
