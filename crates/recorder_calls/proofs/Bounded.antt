-- Keys in order, each once, are no more than those of a list in which they stand.
use Rattle.std.proofs.Common.{◌≡◌, ◌⊎◌, inl, inr, ⊎_elim, suc, ◌≤◌, Bool, true, false, cond, ◌||◌, List, [], ◌∷◌, ◌++◌, length, refl, sym, ap, ◌∙◌, subst, arith}
use Rattle.std.proofs.lemmas.Bool.{cases_Bool, or_cases, true≢false}
use Rattle.run_events.specs.declared.key.Key.{Key}
use Rattle.marks.proofs.Touched.{or_true_left, or_true_right}
use Rattle.logical_clock.specs.Events.{AreDistinct, is_among}
use Rattle.replay_runs.specs.Runs.{same_key}
use Rattle.replay_runs.specs.Keys.{key_before, sorted_keys, with_key}
use Rattle.replay_runs.proofs.Keys.{same_key_refl, same_key_true}
use Rattle.steps_above_stamps.proofs.Distinct.{are_distinct}

-- ---- what stands in a list

pub among_append : (js ks : List Key) (i : Key) → is_among (js ++ ks) i ≡ true → (is_among js i ≡ true) ⊎ (is_among ks i ≡ true)
among_append [] ks i h = inr h
among_append (j ∷ js) ks i h = ⊎_elim
    (λ z. inl (or_true_left (same_key j i) (is_among js i) z))
    (λ z. ⊎_elim (λ y. inl (or_true_right (same_key j i) (is_among js i) y)) (λ y. inr y) (among_append js ks i z))
    (or_cases (same_key j i) (is_among (js ++ ks) i) h)

pub among_left : (js ks : List Key) (i : Key) → is_among js i ≡ true → is_among (js ++ ks) i ≡ true
among_left [] ks i h = absurd (true≢false (sym h))
among_left (j ∷ js) ks i h = ⊎_elim
    (λ z. or_true_left (same_key j i) (is_among (js ++ ks) i) z)
    (λ z. or_true_right (same_key j i) (is_among (js ++ ks) i) (among_left js ks i z))
    (or_cases (same_key j i) (is_among js i) h)

pub among_right : (js ks : List Key) (i : Key) → is_among ks i ≡ true → is_among (js ++ ks) i ≡ true
among_right [] ks i h = h
among_right (j ∷ js) ks i h = or_true_right (same_key j i) (is_among (js ++ ks) i) (among_right js ks i h)

-- with one key more
among_with : (k : Key) (js : List Key) (i : Key) → is_among (with_key k js) i ≡ true → (same_key k i ≡ true) ⊎ (is_among js i ≡ true)
among_with k [] i h = or_cases (same_key k i) false h
among_with k (j ∷ js) i h = by (same_key k j) (key_before k j) h (among_with k js i)
  where
    by : (s c : Bool) → is_among (cond s (j ∷ js) (cond c (k ∷ j ∷ js) (j ∷ with_key k js))) i ≡ true → (is_among (with_key k js) i ≡ true → (same_key k i ≡ true) ⊎ (is_among js i ≡ true)) → (same_key k i ≡ true) ⊎ (is_among (j ∷ js) i ≡ true)
    by true c a more = inr a
    by false true a more = or_cases (same_key k i) _ a
    by false false a more = ⊎_elim
        (λ z. inr (or_true_left (same_key j i) (is_among js i) z))
        (λ z. ⊎_elim (λ y. inl y) (λ y. inr (or_true_right (same_key j i) (is_among js i) y)) (more z))
        (or_cases (same_key j i) (is_among (with_key k js) i) a)

among_sorted : (ks : List Key) (i : Key) → is_among (sorted_keys ks) i ≡ true → is_among ks i ≡ true
among_sorted [] i h = h
among_sorted (k ∷ ks) i h = ⊎_elim
    (λ z. or_true_left (same_key k i) (is_among ks i) z)
    (λ z. or_true_right (same_key k i) (is_among ks i) (among_sorted ks i z))
    (among_with k (sorted_keys ks) i h)

-- ---- how many

-- the list without a key that stands in it
abbrev without : Key → List Key → List Key
without k [] = []
without k (j ∷ js) = cond (same_key j k) js (j ∷ without k js)

shorter : (k : Key) (js : List Key) → is_among js k ≡ true → length js ≡ suc (length (without k js))
shorter k [] h = absurd (true≢false (sym h))
shorter k (j ∷ js) h = by (same_key j k) h (shorter k js)
  where
    by : (b : Bool) → (b || is_among js k) ≡ true → (is_among js k ≡ true → length js ≡ suc (length (without k js))) → length (j ∷ js) ≡ suc (length (cond b js (j ∷ without k js)))
    by true z more = refl
    by false z more = ap suc (more z)

still : (k i : Key) (js : List Key) → same_key k i ≡ false → is_among js i ≡ true → is_among (without k js) i ≡ true
still k i [] apart h = h
still k i (j ∷ js) apart h = by (same_key j k) refl (or_cases (same_key j i) (is_among js i) h) (still k i js apart)
  where
    by : (b : Bool) → same_key j k ≡ b → (same_key j i ≡ true) ⊎ (is_among js i ≡ true) → (is_among js i ≡ true → is_among (without k js) i ≡ true) → is_among (cond b js (j ∷ without k js)) i ≡ true
    by true e (inl z) more = absurd (true≢false (sym (subst (λ q. same_key q i ≡ true) (same_key_true j k e) z) ∙ apart))
    by true e (inr z) more = z
    by false e (inl z) more = or_true_left (same_key j i) (is_among (without k js) i) z
    by false e (inr z) more = or_true_right (same_key j i) (is_among (without k js) i) (more z)

distinct_few : (ks js : List Key) → AreDistinct ks → ((i : Key) → is_among ks i ≡ true → is_among js i ≡ true) → length ks ≤ length js
distinct_few [] js d h = omega arith
distinct_few (k ∷ ks) js d h =
    let here : is_among js k ≡ true = h k (or_true_left (same_key k k) (is_among ks k) (same_key_refl k)) in
    let e = shorter k js here in
    let n = distinct_few ks (without k js) d.1 rest in
    omega (arith, e, n)
  where
    apart : (i : Key) → is_among ks i ≡ true → same_key k i ≡ false
    apart i a = ⊎_elim (λ z. absurd (true≢false (sym (subst (λ q. is_among ks q ≡ true) (sym (same_key_true k i z)) a) ∙ d.0))) (λ z. z) (cases_Bool (same_key k i))

    rest : (i : Key) → is_among ks i ≡ true → is_among (without k js) i ≡ true
    rest i a = still k i js (apart i a) (h i (or_true_right (same_key k i) (is_among ks i) a))

pub few_among : (ks js : List Key) → ((i : Key) → is_among ks i ≡ true → is_among js i ≡ true) → length (sorted_keys ks) ≤ length js
few_among ks js h = distinct_few (sorted_keys ks) js (are_distinct ks) (λ i a. h i (among_sorted ks i a))

pub sorted_short : (ks : List Key) → length (sorted_keys ks) ≤ length ks
sorted_short ks = few_among ks ks (λ i a. a)
