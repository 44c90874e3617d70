use Rattle.std.proofs.Common.{◌≡◌, ℕ, ◌+◌, List, ◌∷◌, ◌++◌, drop, get_or, sym, ap, ◌∙◌, subst, arith}
use Rattle.std.specs.Int.{next_multiple_of}
use Rattle.c_types_model.specs.declared.extent.Extent.{Extent}
use Rattle.isolation_check_rules.specs.declared.area.Area.TheVariants.{Constants}
use Rattle.isolation_check_rules.specs.declared.area.Ends.{Ends}
use Rattle.isolation_check_rules.specs.Addresses.{addresses_from, end_in, with_end}
use Rattle.isolation_check.specs.Rows.{AllEnd}
use Rattle.isolation_check.proofs.Lists.{put_one}
use Rattle.isolation_check.proofs.Places.{ends_step, next_at, rows_step}
use Rattle.isolation_check.proofs.rows.addresses.Goals as goal

abbrev none : Extent
none = record { size = 0; align = 0 }

pub next_multiple_of-address-requires-clause-nonzero : goal.next_multiple_of-address-requires-clause-nonzero
next_multiple_of-address-requires-clause-nonzero c =
    (next_at c.loop-i.ends c.args.areas.now c.args.extents.now c.loop-i.i Constants none c.loop-i-test.true c.requires.each c.loop-i.invariant.fit).0

pub next_multiple_of-address-requires-clause-fits : goal.next_multiple_of-address-requires-clause-fits
next_multiple_of-address-requires-clause-fits c =
    let next = next_at c.loop-i.ends c.args.areas.now c.args.extents.now c.loop-i.i Constants none c.loop-i-test.true c.requires.each c.loop-i.invariant.fit in
    omega (arith, ap (λ (n : ℕ). next_multiple_of n (get_or c.args.extents.now c.loop-i.i none).align) c.get.ensures, next.1)

pub loop-i-preserved : goal.loop-i-preserved
loop-i-preserved c =
    let i = c.loop-i.i in
    let ends = c.loop-i.ends in
    let rest = c.args.areas.now in
    let xs = c.args.extents.now in
    let a = get_or rest i Constants in
    let x = get_or xs i none in
    let new = c.with-ends.result in
    let later = drop (i + 1) rest in
    let after = drop (i + 1) xs in
    let at : c.next_multiple_of-address.result ≡ next_multiple_of (end_in ends a) x.align =
    c.next_multiple_of-address.ensures.value ∙ ap (λ (n : ℕ). next_multiple_of n x.align) c.get.ensures in
    let is : new ≡ with_end ends a (next_multiple_of (end_in ends a) x.align + x.size) = c.with-ends.ensures ∙ ap (λ (n : ℕ). with_end ends a (n + x.size)) at in
    let step : c.next_multiple_of-address.result ∷ addresses_from new later after ≡ addresses_from ends (drop i rest) (drop i xs) =
    ap (λ (n : ℕ). n ∷ addresses_from new later after) at
    ∙ (ap (λ (f : Ends). next_multiple_of (end_in ends a) x.align ∷ addresses_from f later after) is
    ∙ sym (rows_step ends rest xs i Constants none c.loop-i-test.true c.requires.each)) in
    record {
      addresses = ap (λ (l : List ℕ). l ++ addresses_from new later after) c.in_ok-push.ensures.items
          ∙ put_one c.loop-i.addresses.items c.next_multiple_of-address.result (addresses_from new later after) _
          (ap (λ (l : List ℕ). c.loop-i.addresses.items ++ l) step ∙ c.loop-i.invariant.addresses);
      fit = subst (λ (f : Ends). AllEnd f later after) (sym is) (ends_step ends rest xs i Constants none c.loop-i-test.true c.requires.each c.loop-i.invariant.fit);
    }
