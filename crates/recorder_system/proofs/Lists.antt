-- Lists: elements that are set, looked for and counted.
use Rattle.std.proofs.Common.{◌≡◌, ◌≢◌, ℕ, zero, suc, ◌<◌, ◌≤◌, Bool, true, false, cond, List, [], ◌∷◌, ◌++◌, length, map, set, Option, Some, None, refl, sym, ap, ◌∙◌, subst, arith}
use Rattle.std.specs.Prelude.{filter, find, slice_get}
use Rattle.std.proofs.lemmas.Bool.{true≢false}

pub get_set_same : {X : Type 0} (xs : List X) (i : ℕ) (y : X) → i < length xs → slice_get (set xs i y) i ≡ Some y
get_set_same [] i y lt = absurd (omega (arith, lt))
get_set_same (x ∷ xs) zero y lt = refl
get_set_same (x ∷ xs) (suc i) y lt = get_set_same xs i y (omega (arith, lt))

pub get_set_other : {X : Type 0} (xs : List X) (i j : ℕ) (y : X) → j ≢ i → slice_get (set xs i y) j ≡ slice_get xs j
get_set_other [] i j y n = refl
get_set_other (x ∷ xs) zero zero y n = absurd (n refl)
get_set_other (x ∷ xs) zero (suc j) y n = refl
get_set_other (x ∷ xs) (suc i) zero y n = refl
get_set_other (x ∷ xs) (suc i) (suc j) y n = get_set_other xs i j y (λ e. n (ap suc e))

pub length_set : {X : Type 0} (xs : List X) (i : ℕ) (y : X) → length (set xs i y) ≡ length xs
length_set [] i y = refl
length_set (x ∷ xs) zero y = refl
length_set (x ∷ xs) (suc i) y = ap suc (length_set xs i y)

pub length_map : {X Y : Type 0} (f : X → Y) (xs : List X) → length (map f xs) ≡ length xs
length_map f [] = refl
length_map f (x ∷ xs) = ap suc (length_map f xs)

pub length_more : {X : Type 0} (xs : List X) (y : X) → length (xs ++ y ∷ []) ≡ suc (length xs)
length_more [] y = refl
length_more (x ∷ xs) y = ap suc (length_more xs y)

-- an element of a list with one more at its end
pub get_more : {X : Type 0} (xs : List X) (y : X) (i : ℕ) (x : X) → slice_get (xs ++ y ∷ []) i ≡ Some x → i ≢ length xs → slice_get xs i ≡ Some x
get_more [] y zero x e n = absurd (n refl)
get_more [] y (suc i) x e n = absurd cc
get_more (z ∷ xs) y zero x e n = e
get_more (z ∷ xs) y (suc i) x e n = get_more xs y i x e (λ k. n (ap suc k))

pub get_newest : {X : Type 0} (xs : List X) (y : X) → slice_get (xs ++ y ∷ []) (length xs) ≡ Some y
get_newest [] y = refl
get_newest (x ∷ xs) y = get_newest xs y

pub get_older : {X : Type 0} (xs : List X) (y : X) (i : ℕ) (x : X) → slice_get xs i ≡ Some x → slice_get (xs ++ y ∷ []) i ≡ Some x
get_older [] y i x e = absurd cc
get_older (z ∷ xs) y zero x e = e
get_older (z ∷ xs) y (suc i) x e = get_older xs y i x e

abbrev or_this : {X : Type 0} → X → Option X → X
or_this x None = x
or_this x (Some y) = y

-- ---- the first that passes

pub found_passes : (p : ℕ → Bool) (xs : List ℕ) (x : ℕ) → find p xs ≡ Some x → p x ≡ true
found_passes p [] x h = absurd cc
found_passes p (y ∷ ys) x h = go (p y) refl h (λ k. found_passes p ys x k)
  where
    go : (b : Bool) → p y ≡ b → cond b (Some y) (find p ys) ≡ Some x → (find p ys ≡ Some x → p x ≡ true) → p x ≡ true
    go true e k on = subst (λ z. p z ≡ true) (ap (or_this x) k) e
    go false e k on = on k

pub none_found : (p : ℕ → Bool) (xs : List ℕ) → ((x : ℕ) → p x ≡ false) → find p xs ≡ None
none_found p [] none = refl
none_found p (y ∷ ys) none = ap (λ b. cond b (Some y) (find p ys)) (none y) ∙ none_found p ys none

-- it is the first that passes another test too, which few pass
pub found_too : (p q : ℕ → Bool) (xs : List ℕ) (x : ℕ) → ((y : ℕ) → q y ≡ true → p y ≡ true) → find p xs ≡ Some x → q x ≡ true → find q xs ≡ Some x
found_too p q [] x fewer h is = absurd cc
found_too p q (y ∷ ys) x fewer h is = go (p y) (q y) refl refl h (λ k. found_too p q ys x fewer k is)
  where
    go : (b c : Bool) → p y ≡ b → q y ≡ c → cond b (Some y) (find p ys) ≡ Some x → (find p ys ≡ Some x → find q ys ≡ Some x) → cond c (Some y) (find q ys) ≡ Some x
    go true true e d k on = k
    go true false e d k on = absurd (true≢false (sym is ∙ (ap q (sym (ap (or_this x) k)) ∙ d)))
    go false true e d k on = absurd (true≢false (sym (fewer y d) ∙ e))
    go false false e d k on = on k

-- ---- counting

abbrev pub count : {X : Type 0} → (X → Bool) → List X → ℕ
count p xs = length (filter p xs)

pub count_more : {X : Type 0} (p : X → Bool) (xs : List X) (y : X) → p y ≡ true → count p (xs ++ y ∷ []) ≡ suc (count p xs)
count_more p [] y is = ap (λ b. length (cond b (y ∷ []) [])) is
count_more p (x ∷ xs) y is = go (p x) (count_more p xs y is)
  where
    go : (b : Bool) → count p (xs ++ y ∷ []) ≡ suc (count p xs) → length (cond b (x ∷ filter p (xs ++ y ∷ [])) (filter p (xs ++ y ∷ []))) ≡ suc (length (cond b (x ∷ filter p xs) (filter p xs)))
    go true on = ap suc on
    go false on = on

-- an element that passes is set to one that doesn't
pub count_less : {X : Type 0} (p : X → Bool) (xs : List X) (i : ℕ) (x y : X) → slice_get xs i ≡ Some x → p x ≡ true → p y ≡ false → suc (count p (set xs i y)) ≡ count p xs
count_less p [] i x y e is not = absurd cc
count_less p (z ∷ xs) zero x y e is not =
    ap (λ b. suc (length (cond b (y ∷ filter p xs) (filter p xs)))) not ∙ sym (ap (λ b. length (cond b (z ∷ filter p xs) (filter p xs))) (ap p (ap (or_this z) e) ∙ is))
count_less p (z ∷ xs) (suc i) x y e is not = go (p z) (count_less p xs i x y e is not)
  where
    go : (b : Bool) → suc (count p (set xs i y)) ≡ count p xs → suc (length (cond b (z ∷ filter p (set xs i y)) (filter p (set xs i y)))) ≡ length (cond b (z ∷ filter p xs) (filter p xs))
    go true on = ap suc on
    go false on = on

-- an element that is set to one which passes as it did
pub count_same : {X : Type 0} (p : X → Bool) (xs : List X) (i : ℕ) (x y : X) → slice_get xs i ≡ Some x → p y ≡ p x → count p (set xs i y) ≡ count p xs
count_same p [] i x y e same = absurd cc
count_same p (z ∷ xs) zero x y e same =
    ap (λ b. length (cond b (y ∷ filter p xs) (filter p xs))) (same ∙ ap p (sym (ap (or_this z) e))) ∙ by (p z)
  where
    by : (b : Bool) → length (cond b (y ∷ filter p xs) (filter p xs)) ≡ length (cond b (z ∷ filter p xs) (filter p xs))
    by true = refl
    by false = refl
count_same p (z ∷ xs) (suc i) x y e same = go (p z) (count_same p xs i x y e same)
  where
    go : (b : Bool) → count p (set xs i y) ≡ count p xs → length (cond b (z ∷ filter p (set xs i y)) (filter p (set xs i y))) ≡ length (cond b (z ∷ filter p xs) (filter p xs))
    go true on = ap suc on
    go false on = on

-- elements that are changed and pass as they did
pub count_map : {X : Type 0} (p : X → Bool) (f : X → X) (xs : List X) → ((x : X) → p (f x) ≡ p x) → count p (map f xs) ≡ count p xs
count_map p f [] same = refl
count_map p f (x ∷ xs) same = ap (λ b. length (cond b (f x ∷ filter p (map f xs)) (filter p (map f xs)))) (same x) ∙ go (p x) (count_map p f xs same)
  where
    go : (b : Bool) → count p (map f xs) ≡ count p xs → length (cond b (f x ∷ filter p (map f xs)) (filter p (map f xs))) ≡ length (cond b (x ∷ filter p xs) (filter p xs))
    go true on = ap suc on
    go false on = on

pub count_few : {X : Type 0} (p : X → Bool) (xs : List X) → count p xs ≤ length xs
count_few p [] = omega arith
count_few p (x ∷ xs) = go (p x) (count_few p xs)
  where
    go : (b : Bool) → count p xs ≤ length xs → length (cond b (x ∷ filter p xs) (filter p xs)) ≤ suc (length xs)
    go true on = omega (arith, on)
    go false on = omega (arith, on)

-- one that passes is counted
pub count_some : {X : Type 0} (p : X → Bool) (xs : List X) (i : ℕ) (x : X) → slice_get xs i ≡ Some x → p x ≡ true → 1 ≤ count p xs
count_some p [] i x e is = absurd cc
count_some p (z ∷ xs) zero x e is = subst (λ b. 1 ≤ length (cond b (z ∷ filter p xs) (filter p xs))) (sym (ap p (ap (or_this z) e) ∙ is)) (omega arith)
count_some p (z ∷ xs) (suc i) x e is = go (p z) (count_some p xs i x e is)
  where
    go : (b : Bool) → 1 ≤ count p xs → 1 ≤ length (cond b (z ∷ filter p xs) (filter p xs))
    go true on = omega arith
    go false on = on
