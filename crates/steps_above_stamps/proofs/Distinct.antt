-- Keys in order, each once, are distinct.
use Rattle.std.proofs.Common.{◌≡◌, ◌⊎◌, inl, inr, ⊎_elim, ◌<◌, Bool, true, false, cond, eqb, ltb, List, [], ◌∷◌, refl, sym, ◌∙◌, subst, arith, eqb-true, eq-eqb}
use Rattle.std.proofs.lemmas.Bool.{ltb-true, lt-ltb, and_from, and_parts, or_cases, true≢false, cases_eq, cases_lt, cases_Bool}
use Rattle.run_events.specs.Class.{number_of}
use Rattle.run_events.specs.declared.key.Key.{Key}
use Rattle.marks.proofs.Touched.{or_true_left, or_true_right}
use Rattle.logical_clock.specs.Events.{is_among, AreDistinct}
use Rattle.replay_runs.specs.Runs.{same_key}
use Rattle.replay_runs.specs.Keys.{key_before, with_key, sorted_keys}
use Rattle.replay_runs.proofs.Keys.{same_class, key_path, same_key_true, same_key_refl}

-- one key comes before another, by class and then by value
abbrev Before : Key → Key → Type 0
Before j k = (number_of j.class < number_of k.class) ⊎ ((number_of j.class ≡ number_of k.class) × (j.value < k.value))

comes_before : (j k : Key) → key_before j k ≡ true → Before j k
comes_before j k h =
    ⊎_elim
    (λ z. inl (ltb-true _ _ z))
    (λ z. let w = and_parts (eqb (number_of j.class) (number_of k.class)) (ltb j.value k.value) z in inr (eqb-true _ _ w.0, ltb-true _ _ w.1))
    (or_cases (ltb (number_of j.class) (number_of k.class)) _ h)

not_itself : (k : Key) → Before k k → ⊥
not_itself k (inl a) = omega (arith, a)
not_itself k (inr a) = omega (arith, a.1)

onward : (i j k : Key) → Before i j → Before j k → Before i k
onward i j k (inl a) (inl b) = inl (omega (arith, a, b))
onward i j k (inl a) (inr b) = inl (omega (arith, a, b.0))
onward i j k (inr a) (inl b) = inl (omega (arith, a.0, b))
onward i j k (inr a) (inr b) = inr (a.0 ∙ b.0, omega (arith, a.1, b.1))

-- a key that neither is another nor comes before it comes after it
module _ (j k : Key) where
  after_values : number_of j.class ≡ number_of k.class → same_key k j ≡ false → key_before k j ≡ false → j.value < k.value
  after_values c s b =
      ⊎_elim
      (λ v. v)
      (λ v. ⊎_elim
      (λ e. absurd (true≢false (sym (subst (λ q. same_key k q ≡ true) (key_path k j (same_class k.class j.class (sym c)) (sym e)) (same_key_refl k)) ∙ s)))
      (λ ne. absurd (true≢false (sym (or_true_right (ltb (number_of k.class) (number_of j.class)) _ (and_from _ _ (eq-eqb _ _ (sym c)) (lt-ltb k.value j.value (omega (arith, v, ne))))) ∙ b)))
      (cases_eq j.value k.value))
      (cases_lt j.value k.value)

  comes_after : same_key k j ≡ false → key_before k j ≡ false → Before j k
  comes_after s b =
      ⊎_elim
      (λ z. inl z)
      (λ z. ⊎_elim
      (λ c. inr (c, after_values c s b))
      (λ ne. absurd (true≢false (sym (or_true_left (ltb (number_of k.class) (number_of j.class)) _ (lt-ltb (number_of k.class) (number_of j.class) (omega (arith, z, ne)))) ∙ b)))
      (cases_eq (number_of j.class) (number_of k.class)))
      (cases_lt (number_of j.class) (number_of k.class))

-- a key comes before each of the list
abbrev IsBeforeAll : Key → List Key → Type 0
IsBeforeAll k js = (i : Key) → is_among js i ≡ true → Before k i

abbrev IsSorted : List Key → Type 0
IsSorted [] = Unit {0}
IsSorted (k ∷ ks) = IsBeforeAll k ks × IsSorted ks

-- what stands in a list with one key more
among_with : (k : Key) (js : List Key) (i : Key) → is_among (with_key k js) i ≡ true → (same_key k i ≡ true) ⊎ (is_among js i ≡ true)
among_with k [] i h = or_cases (same_key k i) false h
among_with k (j ∷ js) i h = go (same_key k j) (key_before k j) h (among_with k js i)
  where
    go : (s c : Bool) → is_among (cond s (j ∷ js) (cond c (k ∷ j ∷ js) (j ∷ with_key k js))) i ≡ true → (is_among (with_key k js) i ≡ true → (same_key k i ≡ true) ⊎ (is_among js i ≡ true)) → (same_key k i ≡ true) ⊎ (is_among (j ∷ js) i ≡ true)
    go true c a on = inr a
    go false true a on = or_cases (same_key k i) _ a
    go false false a on = ⊎_elim
        (λ z. inr (or_true_left (same_key j i) (is_among js i) z))
        (λ z. ⊎_elim (λ y. inl y) (λ y. inr (or_true_right (same_key j i) (is_among js i) y)) (on z))
        (or_cases (same_key j i) (is_among (with_key k js) i) a)

before_head : (k j : Key) (js : List Key) → Before k j → IsBeforeAll j js → IsBeforeAll k (j ∷ js)
before_head k j js b h i a = ⊎_elim (λ z. subst (Before k) (same_key_true j i z) b) (λ z. onward k j i b (h i z)) (or_cases (same_key j i) (is_among js i) a)

with_sorted : (k : Key) (js : List Key) → IsSorted js → IsSorted (with_key k js)
with_sorted k [] h = (λ i a. absurd (true≢false (sym a)), tt)
with_sorted k (j ∷ js) h = go (same_key k j) (key_before k j) refl refl (with_sorted k js h.1)
  where
    go : (s c : Bool) → same_key k j ≡ s → key_before k j ≡ c → IsSorted (with_key k js) → IsSorted (cond s (j ∷ js) (cond c (k ∷ j ∷ js) (j ∷ with_key k js)))
    go true c es ec on = h
    go false true es ec on = (before_head k j js (comes_before k j ec) h.0, h)
    go false false es ec on = (λ i a. ⊎_elim (λ z. subst (Before j) (same_key_true k i z) (comes_after j k es ec)) (h.0 i) (among_with k js i a), on)

are_sorted : (ks : List Key) → IsSorted (sorted_keys ks)
are_sorted [] = tt
are_sorted (k ∷ ks) = with_sorted k (sorted_keys ks) (are_sorted ks)

sorted_distinct : (ks : List Key) → IsSorted ks → AreDistinct ks
sorted_distinct [] h = tt
sorted_distinct (k ∷ ks) h = (⊎_elim (λ z. absurd (not_itself k (h.0 k z))) (λ z. z) (cases_Bool (is_among ks k)), sorted_distinct ks h.1)

pub are_distinct : (ks : List Key) → AreDistinct (sorted_keys ks)
are_distinct ks = sorted_distinct (sorted_keys ks) (are_sorted ks)
