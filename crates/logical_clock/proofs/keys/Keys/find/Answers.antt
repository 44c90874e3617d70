use Rattle.std.proofs.Common.{◌≡◌, ◌∙◌, Some, get_or, ap, sym}
use Rattle.std.specs.Prelude.{unwrap_or}
use Rattle.logical_clock.specs.declared.keys.Counted.{Counted}
use Rattle.logical_clock.specs.Names.{name}
use Rattle.logical_clock.specs.Kept.{nothing, counted_in, row_at, clock_of, events_of, number_in}
use Rattle.logical_clock.proofs.Places.{some_key, greatest_next, mapped_more}
use Rattle.logical_clock.proofs.Rows.{numbers_more, number_below, row_is}
use Rattle.logical_clock.proofs.keys.Keys.find.Goals as goal

pub index-row-requires : goal.index-row-requires
index-row-requires c =
    number_below c.number.new.self.rows.entries c.name_of.result c.in_ok-number.number c.in_ok-number.ensures.number

pub loop-key-preserved : goal.loop-key-preserved
loop-key-preserved c =
    let ks = c.args.of.now in
    let i = c.loop-key.key-index in
    let k = get_or ks i some_key in
    let old = c.args.self.now in
    let new = c.number.new.self in
    let at : number_in new (name k) ≡ Some c.in_ok-number.number = ap (number_in new) (sym c.name_of.ensures) ∙ c.in_ok-number.ensures.number in
    let read : c.index-row.result.now ≡ row_at new.rows.entries c.in_ok-number.number = ap (λ o. unwrap_or o nothing) (sym c.index-row.ensures) in
    let is : c.index-row.result.now ≡ counted_in old (name k) = read ∙ row_is new.rows.entries (name k) c.in_ok-number.number at ∙ c.number.ensures.same (name k) ∙ c.loop-key.invariant.same (name k) in
    record {
      found = numbers_more (number_in c.loop-key.self) (number_in new) ks i some_key c.loop-key.numbers.items c.push.new.self.items c.in_ok-number.number c.loop-key-test.true c.number.ensures.keeps c.loop-key.invariant.found at c.in_ok-push.ensures.ok;
      tickets = mapped_more (events_of old) ks i some_key c.loop-key.tickets.items _ c.from.result c.loop-key-test.true (c.from.ensures ∙ ap (λ (r : Counted). r.events) is) c.loop-key.invariant.tickets c.in_ok-push-2.ensures.ok;
      clock = greatest_next (clock_of old) ks i some_key c.loop-key.latest c.index-row.result.now.clock c.max-latest.result _ c.loop-key-test.true (ap (λ (r : Counted). r.clock) is) c.max-latest.ensures c.loop-key.invariant.clock;
      same = λ q. c.number.ensures.same q ∙ c.loop-key.invariant.same q;
    }
