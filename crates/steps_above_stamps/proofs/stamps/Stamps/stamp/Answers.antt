use Rattle.std.proofs.Common.{◌≡◌, ◌<◌, ◌^◌, ℕ, List, map, length, get_or, refl, sym, ap, ◌∙◌, subst, arith}
use Rattle.std.proofs.Math.ListN.{set}
use Rattle.std.proofs.lemmas.List.{get_or_read}
use Rattle.run_events.specs.declared.key.KeyMark.{KeyMark}
use Rattle.causal_order.specs.Order.{OfKey}
use Rattle.logical_clock.specs.Events.{count}
use Rattle.logical_clock.specs.Counts.{Counts}
use Rattle.logical_clock.proofs.Longest.{count_le}
use Rattle.steps_above_stamps.specs.State.{StampsState}
use Rattle.steps_above_stamps.specs.Stamps.{AreStampsOf}
use Rattle.steps_above_stamps.specs.declared.stamps.EventStamp.{EventStamp}
use Rattle.steps_above_stamps.proofs.Stamped.{IsOfClocks, tickets_are, as_many, keys_ticketed, stamp_is, stamps_then, tickets_small}
use Rattle.steps_above_stamps.proofs.stamps.Stamps.stamp.Goals as goal

pub with_marks-requires : goal.with_marks-requires
with_marks-requires c =
    let past = c.self.invariant.reached.0 in
    let h : Counts past c.self.inside.clocks = c.self.invariant.reached.1 in
    let few : c.self.inside.clocks.events < 4000000000 = subst (λ (s : StampsState). s.clocks.events < 4000000000) (sym c.self.view_is) c.requires.few in
    let tickets : c.in_ok-stamp.stamp.tickets ≡ map (λ k. count (OfKey k) past) c.args.keys.now = (c.in_ok-stamp.ensures.stamp past h).tickets in
    record {
      count = as_many c.args.keys.now (λ k. count (OfKey k) past) c.in_ok-marks.marks c.in_ok-stamp.stamp.tickets c.in_ok-marks.ensures.keys tickets;
      small =
          subst (λ (ns : List ℕ). (k d : ℕ) → k < length ns → get_or ns k d < 2 ^ 32) (sym tickets)
          (tickets_small (λ k. count (OfKey k) past) (length past) (λ k. count_le past (OfKey k)) (omega (arith, few, h.events)) c.args.keys.now);
      words = c.in_ok-marks.ensures.words;
    }

pub returns-clause-keys : goal.returns-clause-keys
returns-clause-keys c =
    let past = c.self.invariant.reached.0 in
    let h : Counts past c.self.inside.clocks = c.self.invariant.reached.1 in
    ap (λ (s : EventStamp). map (λ (q : KeyMark). q.key) s.keys) c.with_marks.ensures.stamp
    ∙ ap (map (λ (q : KeyMark). q.key)) (tickets_are c.args.keys.now (λ k. count (OfKey k) past) c.in_ok-marks.marks c.in_ok-stamp.stamp.tickets c.in_ok-marks.ensures.keys (c.in_ok-stamp.ensures.stamp past h).tickets)
    ∙ keys_ticketed (λ k. count (OfKey k) past) c.args.keys.now

pub returns-clause-stamp : goal.returns-clause-stamp
returns-clause-stamp c = λ memory past m k n.
    let old : StampsState = record { clocks = c.self.inside.clocks; steps = c.self.inside.steps.items } in
    let lt : c.args.thread < length old.steps = omega (arith, c.requires.thread, c.self.invariant.steps) in
    let of : IsOfClocks old c.args.thread c.args.keys.now c.with_marks.result = subst (IsOfClocks old c.args.thread c.args.keys.now) (sym c.with_marks.ensures.stamp) (record {
      thread = c.requires.thread;
      steps = get_or_read old.steps _ _ lt c.index-steps.ensures 0;
      keys = λ past h. tickets_are c.args.keys.now (λ k. count (OfKey k) past) c.in_ok-marks.marks c.in_ok-stamp.stamp.tickets c.in_ok-marks.ensures.keys (c.in_ok-stamp.ensures.stamp past h).tickets;
      clock = λ past h. (c.in_ok-stamp.ensures.stamp past h).clock;
    }) in
    stamp_is memory past old c.args.thread c.args.keys.now c.with_marks.result m of (subst (AreStampsOf memory past) (sym c.self.view_is) k) n

pub returns-clause-counts : goal.returns-clause-counts
returns-clause-counts c = λ memory past m k n.
    let old : StampsState = record { clocks = c.self.inside.clocks; steps = c.self.inside.steps.items } in
    let lt : c.args.thread < length old.steps = omega (arith, c.requires.thread, c.self.invariant.steps) in
    let of : IsOfClocks old c.args.thread c.args.keys.now c.with_marks.result = subst (IsOfClocks old c.args.thread c.args.keys.now) (sym c.with_marks.ensures.stamp) (record {
      thread = c.requires.thread;
      steps = get_or_read old.steps _ _ lt c.index-steps.ensures 0;
      keys = λ past h. tickets_are c.args.keys.now (λ k. count (OfKey k) past) c.in_ok-marks.marks c.in_ok-stamp.stamp.tickets c.in_ok-marks.ensures.keys (c.in_ok-stamp.ensures.stamp past h).tickets;
      clock = λ past h. (c.in_ok-stamp.ensures.stamp past h).clock;
    }) in
    stamps_then memory past old c.args.thread c.args.keys.now c.with_marks.result m c.event.new.self (set old.steps c.args.thread 0) of (subst (AreStampsOf memory past) (sym c.self.view_is) k) n c.self.invariant.steps c.in_ok-stamp.ensures.counts refl
