-- What the clocks keep, one event further.
use Rattle.std.proofs.Common.{◌≡◌, ℕ, suc, ◌+◌, ◌<◌, ◌≤◌, max, Bool, true, false, cond, eqb, List, [], ◌∷◌, length, map, ⊎_elim, refl, sym, ap, ◌∙◌, subst, arith, eq-eqb, add-one}
use Rattle.std.specs.Prelude.{slice_index}
use Rattle.std.proofs.Math.ListN.{set}
use Rattle.std.proofs.lemmas.Bool.{cases_eq}
use Rattle.std.proofs.lemmas.Bool.Decides.{nat_tests}
use Rattle.std.proofs.lemmas.List.{length-set, get_or-set_same, get_or-set_other}
use Rattle.run_events.specs.declared.key.Key.{Key}
use Rattle.causal_order.specs.Order.{OfThread, OfKey}
use Rattle.logical_clock.specs.State.{ClockState}
use Rattle.logical_clock.specs.declared.name.KeyName.{KeyName}
use Rattle.logical_clock.specs.declared.keys.Counted.{Counted}
use Rattle.logical_clock.specs.declared.keys.Keys.{Keys}
use Rattle.logical_clock.specs.Events.{Occurrence, occurrence, count, is_among, IsClockOf}
use Rattle.logical_clock.specs.Names.{name, is_named, greatest_of}
use Rattle.logical_clock.specs.Kept.{counted_at, counted_in, after}
use Rattle.logical_clock.specs.Counts.{Counts, latest, last_clock}
use Rattle.logical_clock.proofs.Places.{greatest_same, named_among}
use Rattle.logical_clock.proofs.Longest.{longest, latest_le, last_le, count_le}

pub latest_of : (past : List Occurrence) (c : ClockState) (t : ℕ) (keys : List Key) (own clock : ℕ) → Counts past c → t < length c.threads → own ≡ slice_index c.threads t → clock ≡ max own (greatest_of (λ (k : Key). (counted_at c.keys (name k)).clock) keys) → clock ≡ latest (last_clock past) (occurrence t keys)
latest_of past c t keys own clock h lt is e =
    let o = is ∙ h.of_threads t lt in
    let g = greatest_same (λ (k : Key). (counted_at c.keys (name k)).clock) (λ k. last_clock past (OfKey k)) keys (λ k. ap (λ (x : Counted). x.clock) (h.of_keys k)) in
    omega (arith, e, o, g)

pub clock_fits : (past : List Occurrence) (c : ClockState) (m : Occurrence) (clock : ℕ) → Counts past c → clock ≡ latest (last_clock past) m → clock ≤ c.events
clock_fits past c m clock h e = omega (arith, e, h.events, latest_le (last_clock past) m (length past) (last_le past))

pub events_fit : (past : List Occurrence) (c : ClockState) (k : Key) (n : Counted) → Counts past c → n ≡ counted_at c.keys (name k) → n.events ≤ c.events
events_fit past c k n h e =
    let z = ap (λ (x : Counted). x.events) (e ∙ h.of_keys k) in
    omega (arith, z, h.events, count_le past (OfKey k))

pub stamped : (past : List Occurrence) (m : Occurrence) (clock : ℕ) → clock ≡ latest (last_clock past) m → IsClockOf (m ∷ past) (clock + 1)
stamped past m clock e = subst (IsClockOf (m ∷ past)) (sym (add-one clock ∙ ap suc e)) (longest past m)

pub counted_same : (past : List Occurrence) (c : ClockState) (keys : List Key) (f : Key → ℕ) → Counts past c → ((k : Key) → f k ≡ (counted_at c.keys (name k)).events) → map f keys ≡ map (λ k. count (OfKey k) past) keys
counted_same past c [] f h e = refl
counted_same past c (k ∷ keys) f h e = (λ i. (e k ∙ ap (λ (x : Counted). x.events) (h.of_keys k)) i ∷ counted_same past c keys f h e i)

-- the thread's clock
thread_after : (past : List Occurrence) (c : ClockState) (t u : ℕ) (keys : List Key) (clock : ℕ) → Counts past c → t < length c.threads → u < length c.threads → clock ≡ latest (last_clock past) (occurrence t keys) → slice_index (set c.threads t (clock + 1)) u ≡ last_clock (occurrence t keys ∷ past) (OfThread u)
thread_after past c t u keys clock h lt lu e =
    ⊎_elim
    (λ is. let z = get_or-set_same c.threads t (clock + 1) 0 lt in
    let b : eqb t u ≡ true = eq-eqb t u is in
    subst (λ v. slice_index (set c.threads t (clock + 1)) v ≡ clock + 1) is z ∙ (add-one clock ∙ ap suc e) ∙ ap (λ x. cond x (suc (latest (last_clock past) (occurrence t keys))) (last_clock past (OfThread u))) (sym b))
    (λ ne. let z = get_or-set_other c.threads t u (clock + 1) 0 (λ w. ne (sym w)) in
    let b : eqb t u ≡ false = grind (arith, nat_tests) in
    z ∙ h.of_threads u lu ∙ ap (λ x. cond x (suc (latest (last_clock past) (occurrence t keys))) (last_clock past (OfThread u))) (sym b))
    (cases_eq t u)

-- what is kept of a key
key_after : (past : List Occurrence) (c : ClockState) (t : ℕ) (keys : List Key) (k : Key) (clock : ℕ) (now new : Counted) → Counts past c → clock ≡ latest (last_clock past) (occurrence t keys) → now ≡ counted_at c.keys (name k) → new ≡ after (is_named keys (name k)) (clock + 1) now
    → new ≡ record { events = count (OfKey k) (occurrence t keys ∷ past); clock = last_clock (occurrence t keys ∷ past) (OfKey k) }
key_after past c t keys k clock now new h e is up = up ∙ go (is_named keys (name k)) (is_among keys k) (named_among keys k)
  where
    was : now ≡ record { events = count (OfKey k) past; clock = last_clock past (OfKey k) }
    was = is ∙ h.of_keys k

    go : (a b : Bool) → a ≡ b → after a (clock + 1) now ≡ record { events = cond b (suc (count (OfKey k) past)) (count (OfKey k) past); clock = cond b (suc (latest (last_clock past) (occurrence t keys))) (last_clock past (OfKey k)) }
    go true true f = (λ i. record { events = (add-one now.events ∙ ap (λ (x : Counted). suc x.events) was) i; clock = (add-one clock ∙ ap suc e) i })
    go true false f = absurd cc
    go false true f = absurd cc
    go false false f = was

pub counts_after : (past : List Occurrence) (c : ClockState) (t : ℕ) (keys : List Key) (clock : ℕ) (mid : KeyName → Counted) (new : Keys) → Counts past c → t < length c.threads → clock ≡ latest (last_clock past) (occurrence t keys)
    → ((q : KeyName) → mid q ≡ counted_at c.keys q) → ((q : KeyName) → counted_in new q ≡ after (is_named keys q) (clock + 1) (mid q)) → Counts (occurrence t keys ∷ past) (record { events = c.events + 1; threads = set c.threads t (clock + 1); keys = new.rows.entries })
counts_after past c t keys clock mid new h lt e same up =
    record {
      events = omega (arith, h.events);
      of_threads = λ u lu. thread_after past c t u keys clock h lt (omega (arith, length-set c.threads t (clock + 1))) e;
      of_keys = λ k. key_after past c t keys k clock (mid (name k)) (counted_in new (name k)) h e (same (name k)) (up (name k));
    }
