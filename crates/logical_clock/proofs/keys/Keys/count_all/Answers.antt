use Rattle.std.proofs.Common.{◌≡◌, ◌∙◌, ◌<◌, Some, cond, get_or, ap, sym, subst, refl, arith}
use Rattle.std.specs.BTreeMap.{is_at}
use Rattle.logical_clock.specs.declared.keys.Counted.{Counted}
use Rattle.logical_clock.specs.Names.{name, key_cmp}
use Rattle.logical_clock.specs.Kept.{row, one_more, counted_at, counted_in, number_at, number_in}
use Rattle.logical_clock.proofs.Places.{some_key}
use Rattle.logical_clock.proofs.Rows.{number_of, numbers_long, number_below, row_is, numbers_stay, row_written, not_yet, next_counts}
use Rattle.logical_clock.proofs.keys.Keys.count_all.Goals as goal

pub loop-i-init : goal.loop-i-init
loop-i-init c = record { numbers = λ q. refl; counts = λ q. refl }

pub bounds-numbers-i : goal.bounds-numbers-i
bounds-numbers-i c = omega (arith, numbers_long (number_in c.args.self.now) c.args.of.now c.args.numbers.now c.requires.numbers, c.loop-i-test.true)

pub count-requires-clause-below : goal.count-requires-clause-below
count-requires-clause-below c =
    let ks = c.args.of.now in
    let i = c.loop-i.i in
    let k = get_or ks i some_key in
    let n = get_or c.args.numbers.now i 0 in
    let at : number_in c.loop-i.self (name k) ≡ Some n = c.loop-i.invariant.numbers (name k) ∙ number_of (number_in c.args.self.now) ks c.args.numbers.now i some_key c.requires.numbers c.loop-i-test.true in
    number_below c.loop-i.self.rows.entries (name k) n at

pub count-requires-clause-few : goal.count-requires-clause-few
count-requires-clause-few c =
    let ks = c.args.of.now in
    let i = c.loop-i.i in
    let k = get_or ks i some_key in
    let now = c.loop-i.self in
    let n = get_or c.args.numbers.now i 0 in
    let at : number_in now (name k) ≡ Some n = c.loop-i.invariant.numbers (name k) ∙ number_of (number_in c.args.self.now) ks c.args.numbers.now i some_key c.requires.numbers c.loop-i-test.true in
    let same = not_yet ks i some_key c.args.clock (counted_in c.args.self.now) (counted_in now) c.requires.distinct c.loop-i-test.true c.loop-i.invariant.counts in
    subst (λ (x : Counted). x.events < 4000000000) (sym (row_is now.rows.entries (name k) n at ∙ same)) (c.requires.few k)

pub loop-i-preserved : goal.loop-i-preserved
loop-i-preserved c =
    let ks = c.args.of.now in
    let i = c.loop-i.i in
    let k = get_or ks i some_key in
    let old = c.args.self.now in
    let now = c.loop-i.self in
    let new = c.count.new.self in
    let n = get_or c.args.numbers.now i 0 in
    let inv = c.loop-i.invariant in
    let at : number_in now (name k) ≡ Some n = inv.numbers (name k) ∙ number_of (number_in old) ks c.args.numbers.now i some_key c.requires.numbers c.loop-i-test.true in
    let here : row now n ≡ counted_in now (name k) = row_is now.rows.entries (name k) n at in
    record {
      numbers = λ q. ap (λ es. number_at es q) c.count.ensures ∙ numbers_stay now.rows.entries n (one_more c.args.clock (row now n)) q ∙ inv.numbers q;
      counts = λ q. next_counts ks i some_key q c.args.clock (counted_in old) (counted_in now) (counted_in new q) c.requires.distinct c.loop-i-test.true inv.counts
          (ap (λ es. counted_at es q) c.count.ensures
          ∙ row_written now.rows.entries (name k) n (one_more c.args.clock (row now n)) at q
          ∙ ap (λ x. cond (is_at (key_cmp (name k)) q) (one_more c.args.clock x) (counted_in now q)) here);
    }
