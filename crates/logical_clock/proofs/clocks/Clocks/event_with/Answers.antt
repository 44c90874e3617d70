use Rattle.std.proofs.Common.{◌∷◌, ◌<◌, length, ◌∙◌, subst, sym, arith}
use Rattle.std.proofs.lemmas.List.{get_or_read}
use Rattle.logical_clock.specs.Events.{occurrence}
use Rattle.logical_clock.specs.Names.{name}
use Rattle.logical_clock.specs.Kept.{counted_in, events_of}
use Rattle.logical_clock.specs.State.{ClockState}
use Rattle.logical_clock.specs.Counts.{Counts}
use Rattle.logical_clock.proofs.Counting.{latest_of, clock_fits, events_fit, stamped, counted_same, counts_after}
use Rattle.logical_clock.proofs.clocks.Clocks.event_with.Goals as goal

pub overflow_add-clock : goal.overflow_add-clock
overflow_add-clock c =
    let old : ClockState = record { events = c.self.inside.events; threads = c.self.inside.threads.items; keys = c.self.inside.keys.rows.entries } in
    let past = c.self.invariant.0 in
    let h : Counts past old = c.self.invariant.1 in
    let lt : c.args.thread < length old.threads = subst (λ (s : ClockState). c.args.thread < length s.threads) (sym c.self.view_is) c.requires.thread in
    let few : old.events < 4000000000 = subst (λ (s : ClockState). s.events < 4000000000) (sym c.self.view_is) c.requires.few in
    let e = latest_of past old c.args.thread c.args.keys.now c.index-own.result.now c.in_ok-clock.field-0 h lt (get_or_read old.threads _ _ lt c.index-own.ensures 0) c.in_ok-clock.ensures.clock in
    omega (arith, clock_fits past old (occurrence c.args.thread c.args.keys.now) c.in_ok-clock.field-0 h e, few)

pub count_all-requires-clause-few : goal.count_all-requires-clause-few
count_all-requires-clause-few c = λ k.
    let old : ClockState = record { events = c.self.inside.events; threads = c.self.inside.threads.items; keys = c.self.inside.keys.rows.entries } in
    let few : old.events < 4000000000 = subst (λ (s : ClockState). s.events < 4000000000) (sym c.self.view_is) c.requires.few in
    omega (arith, events_fit c.self.invariant.0 old k (counted_in c.find.new.self (name k)) c.self.invariant.1 (c.find.ensures.same (name k)), few)

pub returns-clause-stamp : goal.returns-clause-stamp
returns-clause-stamp c = λ past k.
    let old : ClockState = record { events = c.self.inside.events; threads = c.self.inside.threads.items; keys = c.self.inside.keys.rows.entries } in
    let h : Counts past old = subst (Counts past) (sym c.self.view_is) k in
    let lt : c.args.thread < length old.threads = subst (λ (s : ClockState). c.args.thread < length s.threads) (sym c.self.view_is) c.requires.thread in
    let e = latest_of past old c.args.thread c.args.keys.now c.index-own.result.now c.in_ok-clock.field-0 h lt (get_or_read old.threads _ _ lt c.index-own.ensures 0) c.in_ok-clock.ensures.clock in
    record {
      clock = stamped past (occurrence c.args.thread c.args.keys.now) c.in_ok-clock.field-0 e;
      tickets = c.in_ok-tickets.ensures ∙ c.as_slice.ensures ∙ c.in_ok-clock.ensures.tickets ∙ counted_same past old c.args.keys.now (events_of c.self.inside.keys) h (λ j i. events_of c.self.inside.keys j);
    }

pub returns-clause-counts : goal.returns-clause-counts
returns-clause-counts c = λ past k.
    let old : ClockState = record { events = c.self.inside.events; threads = c.self.inside.threads.items; keys = c.self.inside.keys.rows.entries } in
    let h : Counts past old = subst (Counts past) (sym c.self.view_is) k in
    let lt : c.args.thread < length old.threads = subst (λ (s : ClockState). c.args.thread < length s.threads) (sym c.self.view_is) c.requires.thread in
    let e = latest_of past old c.args.thread c.args.keys.now c.index-own.result.now c.in_ok-clock.field-0 h lt (get_or_read old.threads _ _ lt c.index-own.ensures 0) c.in_ok-clock.ensures.clock in
    counts_after past old c.args.thread c.args.keys.now c.in_ok-clock.field-0 (counted_in c.find.new.self) c.count_all.new.self h lt e c.find.ensures.same c.count_all.ensures

pub invariant_of-self-2 : goal.invariant_of-self-2
invariant_of-self-2 c =
    let old : ClockState = record { events = c.self.inside.events; threads = c.self.inside.threads.items; keys = c.self.inside.keys.rows.entries } in
    let past = c.self.invariant.0 in
    let h : Counts past old = c.self.invariant.1 in
    let lt : c.args.thread < length old.threads = subst (λ (s : ClockState). c.args.thread < length s.threads) (sym c.self.view_is) c.requires.thread in
    let e = latest_of past old c.args.thread c.args.keys.now c.index-own.result.now c.in_ok-clock.field-0 h lt (get_or_read old.threads _ _ lt c.index-own.ensures 0) c.in_ok-clock.ensures.clock in
    (occurrence c.args.thread c.args.keys.now ∷ past, counts_after past old c.args.thread c.args.keys.now c.in_ok-clock.field-0 (counted_in c.find.new.self) c.count_all.new.self h lt e c.find.ensures.same c.count_all.ensures)
