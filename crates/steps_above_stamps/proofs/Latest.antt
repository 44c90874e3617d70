-- The latest clock of an event's links is that of one of them.
use Rattle.std.proofs.Common.{◌≡◌, ℕ, ◌<◌, ◌≤◌, true, List, [], ◌∷◌, ◌⊎◌, inl, inr, ⊎_elim, refl, arith, eq-eqb}
use Rattle.std.proofs.lemmas.Bool.{cases_lt}
use Rattle.run_events.specs.declared.key.Key.{Key}
use Rattle.marks.proofs.Touched.{or_true_left, or_true_right}
use Rattle.causal_order.specs.Order.{Link, OfThread, OfKey, same_key}
use Rattle.logical_clock.specs.Events.{is_among, occurrence, has}
use Rattle.logical_clock.specs.Names.{greatest_of}
use Rattle.logical_clock.specs.Counts.{latest}
use Rattle.replay_runs.proofs.Keys.{same_key_refl}

-- one of the keys has the greatest number
record IsOfKey (f : Key → ℕ) (ks : List Key) : Type 0 where
  key : Key
  among : is_among ks key ≡ true
  is : f key ≡ greatest_of f ks

greatest_is : (f : Key → ℕ) (ks : List Key) → (greatest_of f ks ≡ 0) ⊎ IsOfKey f ks
greatest_is f [] = inl refl
greatest_is f (k ∷ ks) = ⊎_elim (λ lt. ⊎_elim (λ z. absurd (omega (arith, lt, z))) (later lt) (greatest_is f ks)) first (cases_lt (f k) (greatest_of f ks))
  where
    first : greatest_of f ks ≤ f k → (greatest_of f (k ∷ ks) ≡ 0) ⊎ IsOfKey f (k ∷ ks)
    first le = inr (record { key = k; among = or_true_left (same_key k k) (is_among ks k) (same_key_refl k); is = omega (arith, le) })

    later : f k < greatest_of f ks → IsOfKey f ks → (greatest_of f (k ∷ ks) ≡ 0) ⊎ IsOfKey f (k ∷ ks)
    later lt w = inr (record { key = w.key; among = or_true_right (same_key k w.key) (is_among ks w.key) w.among; is = omega (arith, lt, w.is) })

-- one of the links of an event has the latest clock
pub record HasLatest (f : Link → ℕ) (t : ℕ) (ks : List Key) : Type 0 where
  pub link : Link
  pub has : has (occurrence t ks) link ≡ true
  pub is : f link ≡ latest f (occurrence t ks)

pub latest_is : (f : Link → ℕ) (t : ℕ) (ks : List Key) → HasLatest f t ks
latest_is f t ks = ⊎_elim (λ z. own (omega (arith, z))) (λ w. ⊎_elim (keyed w) own (cases_lt (f (OfThread t)) (greatest_of (λ k. f (OfKey k)) ks))) (greatest_is (λ k. f (OfKey k)) ks)
  where
    own : greatest_of (λ k. f (OfKey k)) ks ≤ f (OfThread t) → HasLatest f t ks
    own le = record { link = OfThread t; has = eq-eqb t t refl; is = omega (arith, le) }

    keyed : IsOfKey (λ k. f (OfKey k)) ks → f (OfThread t) < greatest_of (λ k. f (OfKey k)) ks → HasLatest f t ks
    keyed w lt = record { link = OfKey w.key; has = w.among; is = omega (arith, lt, w.is) }
