use Rattle.std.proofs.Common.{[], ◌∷◌, ◌<◌, length, subst, sym, arith}
use Rattle.std.proofs.lemmas.List.{get_or_read}
use Rattle.logical_clock.specs.Events.{occurrence}
use Rattle.logical_clock.specs.Kept.{counted_in}
use Rattle.logical_clock.specs.State.{ClockState}
use Rattle.logical_clock.specs.Counts.{Counts}
use Rattle.logical_clock.proofs.Counting.{latest_of, clock_fits, stamped, counts_after}
use Rattle.logical_clock.proofs.clocks.Clocks.event_alone.Goals as goal

pub overflow_add-next : goal.overflow_add-next
overflow_add-next c =
    let old : ClockState = record { events = c.self.inside.events; threads = c.self.inside.threads.items; keys = c.self.inside.keys.rows.entries } in
    let past = c.self.invariant.0 in
    let h : Counts past old = c.self.invariant.1 in
    let lt : c.args.thread < length old.threads = subst (λ (s : ClockState). c.args.thread < length s.threads) (sym c.self.view_is) c.requires.thread in
    let few : old.events < 4000000000 = subst (λ (s : ClockState). s.events < 4000000000) (sym c.self.view_is) c.requires.few in
    let e = latest_of past old c.args.thread [] c.index-own.result.now c.index-own.result.now h lt (get_or_read old.threads _ _ lt c.index-own.ensures 0) (omega arith) in
    omega (arith, clock_fits past old (occurrence c.args.thread []) c.index-own.result.now h e, few)

pub returns-clause-stamp : goal.returns-clause-stamp
returns-clause-stamp c = λ past k.
    let old : ClockState = record { events = c.self.inside.events; threads = c.self.inside.threads.items; keys = c.self.inside.keys.rows.entries } in
    let h : Counts past old = subst (Counts past) (sym c.self.view_is) k in
    let lt : c.args.thread < length old.threads = subst (λ (s : ClockState). c.args.thread < length s.threads) (sym c.self.view_is) c.requires.thread in
    let e = latest_of past old c.args.thread [] c.index-own.result.now c.index-own.result.now h lt (get_or_read old.threads _ _ lt c.index-own.ensures 0) (omega arith) in
    record {
      clock = stamped past (occurrence c.args.thread []) c.index-own.result.now e;
      tickets = c.new.ensures;
    }

pub returns-clause-counts : goal.returns-clause-counts
returns-clause-counts c = λ past k.
    let old : ClockState = record { events = c.self.inside.events; threads = c.self.inside.threads.items; keys = c.self.inside.keys.rows.entries } in
    let h : Counts past old = subst (Counts past) (sym c.self.view_is) k in
    let lt : c.args.thread < length old.threads = subst (λ (s : ClockState). c.args.thread < length s.threads) (sym c.self.view_is) c.requires.thread in
    let e = latest_of past old c.args.thread [] c.index-own.result.now c.index-own.result.now h lt (get_or_read old.threads _ _ lt c.index-own.ensures 0) (omega arith) in
    counts_after past old c.args.thread [] c.index-own.result.now (counted_in c.self.inside.keys) c.self.inside.keys h lt e (λ q i. counted_in c.self.inside.keys q) (λ q i. counted_in c.self.inside.keys q)

pub invariant_of-self : goal.invariant_of-self
invariant_of-self c =
    let old : ClockState = record { events = c.self.inside.events; threads = c.self.inside.threads.items; keys = c.self.inside.keys.rows.entries } in
    let past = c.self.invariant.0 in
    let h : Counts past old = c.self.invariant.1 in
    let lt : c.args.thread < length old.threads = subst (λ (s : ClockState). c.args.thread < length s.threads) (sym c.self.view_is) c.requires.thread in
    let e = latest_of past old c.args.thread [] c.index-own.result.now c.index-own.result.now h lt (get_or_read old.threads _ _ lt c.index-own.ensures 0) (omega arith) in
    (occurrence c.args.thread [] ∷ past, counts_after past old c.args.thread [] c.index-own.result.now (counted_in c.self.inside.keys) c.self.inside.keys h lt e (λ q i. counted_in c.self.inside.keys q) (λ q i. counted_in c.self.inside.keys q))
