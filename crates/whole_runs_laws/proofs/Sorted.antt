-- Keys in order stand once each, so that tickets by key are given by the keys.
use Rattle.std.proofs.Common.{◌≡◌, ◌⊎◌, inl, inr, ⊎_elim, ◌<◌, Bool, true, false, cond, eqb, ltb, List, [], ◌∷◌, map, refl, sym, ap, ◌∙◌, subst, arith, eqb-true, eq-eqb}
use Rattle.std.proofs.lemmas.Bool.{ltb-true, lt-ltb, and_from, and_parts, or_cases, true≢false, cases_eq, cases_lt, cases_Bool}
use Rattle.run_events.specs.Class.{number_of}
use Rattle.run_events.specs.declared.key.Key.{Key}
use Rattle.run_events.specs.declared.key.KeyMark.{KeyMark}
use Rattle.marks.proofs.Touched.{or_true_left, or_true_right}
use Rattle.replay_runs.specs.Runs.{same_key, is_listed, ticket_in}
use Rattle.replay_runs.specs.Keys.{key_before, with_key, sorted_keys}
use Rattle.replay_runs.proofs.Keys.{same_class, key_path, same_key_true, same_key_refl}

-- by class, then by value
abbrev Before : Key → Key → Type 0
Before j k = (number_of j.class < number_of k.class) ⊎ ((number_of j.class ≡ number_of k.class) × (j.value < k.value))

before : (j k : Key) → key_before j k ≡ true → Before j k
before j k h =
    ⊎_elim
    (λ z. inl (ltb-true _ _ z))
    (λ z. let w = and_parts (eqb (number_of j.class) (number_of k.class)) (ltb j.value k.value) z in inr (eqb-true _ _ w.0, ltb-true _ _ w.1))
    (or_cases (ltb (number_of j.class) (number_of k.class)) _ h)

then_before : (i j k : Key) → Before i j → Before j k → Before i k
then_before i j k (inl a) (inl b) = inl (omega (arith, a, b))
then_before i j k (inl a) (inr b) = inl (omega (arith, a, b.0))
then_before i j k (inr a) (inl b) = inl (omega (arith, a.0, b))
then_before i j k (inr a) (inr b) = inr (a.0 ∙ b.0, omega (arith, a.1, b.1))

not_same : (j k : Key) → Before j k → same_key j k ≡ false
not_same j k b = ⊎_elim (λ z. absurd (clash b (same_key_true j k z))) (λ z. z) (cases_Bool (same_key j k))
  where
    clash : Before j k → j ≡ k → ⊥
    clash (inl a) e = omega (arith, a, ap (λ q. number_of q.class) e)
    clash (inr a) e = omega (arith, a.1, ap (λ q. q.value) e)

-- one of two keys that differ comes first
other_way : (j k : Key) → same_key k j ≡ false → key_before k j ≡ false → Before j k
other_way j k s b =
    ⊎_elim
    (λ z. inl z)
    (λ z. ⊎_elim
    (λ c. ⊎_elim
    (λ v. inr (c, v))
    (λ v. ⊎_elim
    (λ e. absurd (true≢false (sym (subst (λ q. same_key k q ≡ true) (key_path k j (same_class k.class j.class (sym c)) (sym e)) (same_key_refl k)) ∙ s)))
    (λ ne. absurd (true≢false (sym (or_true_right (ltb (number_of k.class) (number_of j.class)) _ (and_from _ _ (eq-eqb _ _ (sym c)) (lt-ltb k.value j.value (omega (arith, v, ne))))) ∙ b)))
    (cases_eq j.value k.value))
    (cases_lt j.value k.value))
    (λ ne. absurd (true≢false (sym (or_true_left (ltb (number_of k.class) (number_of j.class)) _ (lt-ltb (number_of k.class) (number_of j.class) (omega (arith, z, ne)))) ∙ b)))
    (cases_eq (number_of j.class) (number_of k.class)))
    (cases_lt (number_of j.class) (number_of k.class))

abbrev AllAfter : Key → List Key → Type 0
AllAfter k [] = Unit {0}
AllAfter k (j ∷ js) = Before k j × AllAfter k js

abbrev pub IsSorted : List Key → Type 0
IsSorted [] = Unit {0}
IsSorted (k ∷ ks) = AllAfter k ks × IsSorted ks

further : (i k : Key) (js : List Key) → Before i k → AllAfter k js → AllAfter i js
further i k [] b h = tt
further i k (j ∷ js) b h = (then_before i k j b h.0, further i k js b h.1)

with_after : (i k : Key) (js : List Key) → Before i k → AllAfter i js → AllAfter i (with_key k js)
with_after i k [] b h = (b, tt)
with_after i k (j ∷ js) b h = go (same_key k j) (key_before k j) (with_after i k js b h.1)
  where
    go : (s c : Bool) → AllAfter i (with_key k js) → AllAfter i (cond s (j ∷ js) (cond c (k ∷ j ∷ js) (j ∷ with_key k js)))
    go true c on = h
    go false true on = (b, h)
    go false false on = (h.0, on)

with_sorted : (k : Key) (js : List Key) → IsSorted js → IsSorted (with_key k js)
with_sorted k [] h = (tt, tt)
with_sorted k (j ∷ js) h = go (same_key k j) (key_before k j) refl refl (with_sorted k js h.1)
  where
    go : (s c : Bool) → same_key k j ≡ s → key_before k j ≡ c → IsSorted (with_key k js) → IsSorted (cond s (j ∷ js) (cond c (k ∷ j ∷ js) (j ∷ with_key k js)))
    go true c es ec on = h
    go false true es ec on = ((before k j ec, further k j js (before k j ec) h.0), h)
    go false false es ec on = (with_after j k js (other_way j k es ec) h.0, on)

pub are_sorted : (ks : List Key) → IsSorted (sorted_keys ks)
are_sorted [] = tt
are_sorted (k ∷ ks) = with_sorted k (sorted_keys ks) (are_sorted ks)

-- keys with the same tickets

abbrev key_of : List Key → Key → Key
key_of [] d = d
key_of (k ∷ ks) d = k

abbrev keys_after : List Key → List Key
keys_after [] = []
keys_after (k ∷ ks) = ks

later : (k : Key) (qs : List KeyMark) → AllAfter k (map (λ q. q.key) qs) → (j : Key) → is_listed qs j ≡ true → same_key k j ≡ false
later k [] h j e = absurd (true≢false (sym e))
later k (q ∷ qs) h j e =
    ⊎_elim
    (λ z. subst (λ i. same_key k i ≡ false) (same_key_true q.key j z) (not_same k q.key h.0))
    (λ z. later k qs h.1 j z)
    (or_cases (same_key q.key j) (is_listed qs j) e)

pub marks_one : (qs ps : List KeyMark) → map (λ q. q.key) qs ≡ map (λ q. q.key) ps → IsSorted (map (λ q. q.key) qs) → ((k : Key) → is_listed qs k ≡ true → ticket_in qs k ≡ ticket_in ps k) → qs ≡ ps
marks_one [] [] e s h = refl
marks_one [] (p ∷ ps) e s h = cc
marks_one (q ∷ qs) [] e s h = cc
marks_one (q ∷ qs) (p ∷ ps) e s h =
    let same : q.key ≡ p.key = ap (λ ks. key_of ks q.key) e in
    let mine : same_key q.key q.key ≡ true = same_key_refl q.key in
    let theirs : same_key p.key q.key ≡ true = subst (λ k. same_key k q.key ≡ true) same mine in
    let ticket : q.ticket ≡ p.ticket = sym (ap (λ b. cond b q.ticket (ticket_in qs q.key)) mine) ∙ (h q.key (or_true_left (same_key q.key q.key) (is_listed qs q.key) mine) ∙ ap (λ b. cond b p.ticket (ticket_in ps q.key)) theirs) in
    let rest : qs ≡ ps = marks_one qs ps (ap keys_after e) s.1 (λ k l.
    let no : same_key q.key k ≡ false = later q.key qs s.0 k l in
    let none : same_key p.key k ≡ false = subst (λ j. same_key j k ≡ false) same no in
    sym (ap (λ b. cond b q.ticket (ticket_in qs k)) no) ∙ (h k (or_true_right (same_key q.key k) (is_listed qs k) l) ∙ ap (λ b. cond b p.ticket (ticket_in ps k)) none)) in
    λ i. record { key = same i; ticket = ticket i } ∷ rest i
