-- Names of keys, and numbers of keys in a list.
use Rattle.std.proofs.Common.{◌≡◌, ℕ, suc, zero, ◌+◌, ◌<◌, max, Bool, true, false, ◌&&◌, ◌||◌, eqb, List, [], ◌∷◌, ◌++◌, length, take, drop, map, get_or, refl, sym, ap, ◌∙◌, subst, arith, eq-eqb, eqb-true, add-one}
use Rattle.std.proofs.lemmas.Bool.{and_parts}
use Rattle.std.proofs.lemmas.Bool.Decides.{nat_tests}
use Rattle.std.specs.BTreeMap.{is_at}
use Rattle.run_events.specs.Class.{number_of}
use Rattle.run_events.specs.declared.key.Class.TheVariants.{Mutex}
use Rattle.run_events.specs.declared.key.Key.{Key}
use Rattle.causal_order.specs.Order.{same_key}
use Rattle.logical_clock.specs.declared.name.KeyName.{KeyName}
use Rattle.logical_clock.specs.Events.{is_among, AreDistinct}
use Rattle.logical_clock.specs.Names.{name, key_cmp, same_name, is_named, greatest_of}

-- the order of keys tells them apart

pub at_name : (j k : KeyName) → is_at (key_cmp j) k ≡ same_name j k
at_name j k = grind (arith, nat_tests)

pub name_is : (j k : KeyName) → is_at (key_cmp j) k ≡ true → j ≡ k
name_is j k h =
    let p = and_parts (eqb j.class k.class) (eqb j.value k.value) (sym (at_name j k) ∙ h) in
    let c : j.class ≡ k.class = eqb-true j.class k.class p.0 in
    let v : j.value ≡ k.value = eqb-true j.value k.value p.1 in
    λ i. record { class = c i; value = v i }

pub same_is : (j k : KeyName) → same_name j k ≡ true → j ≡ k
same_is j k h = name_is j k (at_name j k ∙ h)

pub same_self : (k : KeyName) → same_name k k ≡ true
same_self k = λ i. eq-eqb k.class k.class refl i && eq-eqb k.value k.value refl i

pub name_swaps : (j k : KeyName) → same_name j k ≡ same_name k j
name_swaps j k = grind (arith, nat_tests)

pub is_name : (j k : KeyName) → j ≡ k → is_at (key_cmp j) k ≡ true
is_name j k e = at_name j k ∙ subst (λ x. same_name j x ≡ true) e (λ i. eq-eqb j.class j.class refl i && eq-eqb j.value j.value refl i)

pub same_swaps : (j k : Key) → same_key j k ≡ same_key k j
same_swaps j k = ap (λ b. b && eqb j.value k.value) (swap (number_of j.class) (number_of k.class)) ∙ ap (λ b. eqb (number_of k.class) (number_of j.class) && b) (swap j.value k.value)
  where
    swap : (a b : ℕ) → eqb a b ≡ eqb b a
    swap a b = grind (arith, nat_tests)

abbrev pub some_key : Key
some_key = record { class = Mutex; value = 0 }

-- the greatest of what is left

pub greatest_next : (f : Key → ℕ) (ks : List Key) (i : ℕ) (d : Key) (most now new all : ℕ) → i < length ks → now ≡ f (get_or ks i d) → new ≡ max most now → max most (greatest_of f (drop i ks)) ≡ all → max new (greatest_of f (drop (i + 1) ks)) ≡ all
greatest_next f ks i d most now new all lt is up h = subst (λ j. max new (greatest_of f (drop j ks)) ≡ all) (sym (add-one i)) (go ks i lt is h)
  where
    go : (ks : List Key) (i : ℕ) → i < length ks → now ≡ f (get_or ks i d) → max most (greatest_of f (drop i ks)) ≡ all → max new (greatest_of f (drop (suc i) ks)) ≡ all
    go [] i lt is h = absurd (omega (arith, lt))
    go (k ∷ ks) zero lt is h = omega (arith, is, h, up)
    go (k ∷ ks) (suc i) lt is h = go ks i (omega (arith, lt)) is h

-- what a function gives of the first keys, and of one more

pub mapped_more : (f : Key → ℕ) (ks : List Key) (i : ℕ) (d : Key) (xs more : List ℕ) (n : ℕ) → i < length ks → n ≡ f (get_or ks i d) → xs ≡ map f (take i ks) → more ≡ xs ++ n ∷ [] → more ≡ map f (take (i + 1) ks)
mapped_more f ks i d xs more n lt is h up = up ∙ ap (λ ys. ys ++ n ∷ []) h ∙ go ks i lt is ∙ ap (λ j. map f (take j ks)) (sym (add-one i))
  where
    go : (ks : List Key) (i : ℕ) → i < length ks → n ≡ f (get_or ks i d) → map f (take i ks) ++ n ∷ [] ≡ map f (take (suc i) ks)
    go [] i lt is = absurd (omega (arith, lt))
    go (k ∷ ks) zero lt is = ap (λ m. m ∷ []) is
    go (k ∷ ks) (suc i) lt is = ap (λ ys. f k ∷ ys) (go ks i (omega (arith, lt)) is)

pub greatest_same : (f g : Key → ℕ) (ks : List Key) → ((k : Key) → f k ≡ g k) → greatest_of f ks ≡ greatest_of g ks
greatest_same f g [] h = refl
greatest_same f g (k ∷ ks) h = omega (arith, h k, greatest_same f g ks h)

-- names in a list

pub named_more : (ks : List Key) (k : Key) (q : KeyName) → is_named (ks ++ k ∷ []) q ≡ (is_named ks q || is_at (key_cmp (name k)) q)
named_more [] k q = go (is_at (key_cmp (name k)) q)
  where
    go : (b : Bool) → (b || false) ≡ b
    go true = refl
    go false = refl
named_more (j ∷ ks) k q = ap (λ b. is_at (key_cmp (name j)) q || b) (named_more ks k q) ∙ assoc (is_at (key_cmp (name j)) q) (is_named ks q) (is_at (key_cmp (name k)) q)
  where
    assoc : (a b c : Bool) → (a || (b || c)) ≡ ((a || b) || c)
    assoc true b c = refl
    assoc false b c = refl

pub named_among : (ks : List Key) (k : Key) → is_named ks (name k) ≡ is_among ks k
named_among [] k = refl
named_among (j ∷ ks) k = (λ i. at_name (name j) (name k) i || named_among ks k i)

apart_at : (ks : List Key) (k d : Key) (i : ℕ) → is_among ks k ≡ false → i < length ks → same_key (get_or ks i d) k ≡ false
apart_at [] k d i h lt = absurd (omega (arith, lt))
apart_at (j ∷ ks) k d zero h lt = first (same_key j k) (is_among ks k) h
  where
    first : (a b : Bool) → (a || b) ≡ false → a ≡ false
    first true b e = absurd cc
    first false b e = refl
apart_at (j ∷ ks) k d (suc i) h lt = apart_at ks k d i (second (same_key j k) (is_among ks k) h) (omega (arith, lt))
  where
    second : (a b : Bool) → (a || b) ≡ false → b ≡ false
    second true b e = absurd cc
    second false b e = e

-- a key isn't among those before it
pub not_before : (ks : List Key) (i : ℕ) (d : Key) → AreDistinct ks → i < length ks → is_named (take i ks) (name (get_or ks i d)) ≡ false
not_before [] i d h lt = absurd (omega (arith, lt))
not_before (k ∷ ks) zero d h lt = refl
not_before (k ∷ ks) (suc i) d h lt =
    let g = get_or ks i d in
    let e : is_at (key_cmp (name k)) (name g) ≡ false = at_name (name k) (name g) ∙ (same_swaps k g ∙ apart_at ks k d i h.0 (omega (arith, lt))) in
    ap (λ b. b || is_named (take i ks) (name g)) e ∙ not_before ks i d h.1 (omega (arith, lt))
