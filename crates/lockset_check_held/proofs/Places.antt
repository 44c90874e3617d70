-- Ascending lists.
use Rattle.std.proofs.Common.{◌≡◌, ℕ, ℤ, zero, suc, ◌<◌, ◌≤◌, Bool, true, false, cond, not, [], ◌∷◌, ◌++◌, refl, sym, subst, arith}
use Rattle.std.specs.Prelude.{filter, get_or, int_lt}
use Rattle.std.specs.List.{All}
use Rattle.std.specs.Ordering.{int_eq, is_eq}
use Rattle.std.specs.declared.cmp.Ordering.TheVariants.{Less, Equal, Greater}
use Rattle.std.proofs.lemmas.Int.{ints}
use Rattle.std.proofs.lemmas.List.Elements.{All-append, All-cons, All-head, All-tail, filter_passes}
use Rattle.std.proofs.lemmas.List.Kept.{AllPairs-cons, AllPairs-filter}
use mathlib.Core.Logic.{◌⊎◌, inl, inr, ⊎_elim}
use Rattle.lockset_check_rules.specs.Mutexes.{Locks, is_held, shared, with_lock, without_lock}
use Rattle.lockset_check_held.specs.Ascending.{Ascends}

-- ---- numbers

pub differs_above : (x k : ℤ) → int_lt k x ≡ true → int_lt x k ≡ false → int_eq x k ≡ false
differs_above x k h e = λ t. is_eq (cond (e t) Less (cond (h t) Greater Equal))

pub under : (x y z : ℤ) → int_lt x y ≡ true → int_lt y z ≡ true → int_lt x z ≡ true
under x y z h e = by (int_lt x z) refl
  where
    by : (b : Bool) → int_lt x z ≡ b → int_lt x z ≡ true
    by true f = f
    by false f = absurd (omega (arith, ints))

pub not_back : (x y : ℤ) → int_lt x y ≡ true → int_lt y x ≡ false
not_back x y h = by (int_lt y x) refl
  where
    by : (b : Bool) → int_lt y x ≡ b → int_lt y x ≡ false
    by false f = f
    by true f = absurd (omega (arith, ints))

pub which : (j i : ℕ) → (j < i) ⊎ (i ≤ j)
which j zero = inr (omega arith)
which zero (suc i) = inl (omega arith)
which (suc j) (suc i) = ⊎_elim (λ l. inl (omega arith)) (λ l. inr (omega arith)) (which j i)

-- ---- ascending lists

abbrev Below : ℤ → ℤ → Type 0
Below m k = int_lt m k ≡ true

joined : (xs ys : Locks) → Ascends xs → Ascends ys → All (λ x. All (Below x) ys) xs → Ascends (xs ++ ys)
joined [] ys a b c = b
joined (x ∷ xs) ys a b c =
    AllPairs-cons Below x (xs ++ ys)
    (All-append (Below x) xs ys (λ j d lt. a 0 (suc j) d (omega arith) (omega arith)) (All-head (λ z. All (Below z) ys) x xs c))
    (joined xs ys (λ i j d lt inside. a (suc i) (suc j) d (omega arith) (omega arith)) b (All-tail (λ z. All (Below z) ys) x xs c))

pub nothing_ascends : Ascends []
nothing_ascends i j d lt inside = absurd (omega arith)

pub kept_ascends : (q : ℤ → Bool) (s : Locks) → Ascends s → Ascends (filter q s)
kept_ascends q s up = AllPairs-filter Below q s up

pub shared_ascends : (s t us : Locks) → Ascends s → us ≡ shared s t → Ascends us
shared_ascends s t us up e = subst Ascends (sym e) (kept_ascends (λ m. is_held m t) s up)

pub without_ascends : (k : ℤ) (s us : Locks) → Ascends s → us ≡ without_lock k s → Ascends us
without_ascends k s us up e = subst Ascends (sym e) (kept_ascends (λ m. not (int_eq m k)) s up)

pub with_ascends : (k : ℤ) (s : Locks) → Ascends s → Ascends (with_lock k s)
with_ascends k s up =
    let low = filter (λ m. int_lt m k) s in
    let high = filter (λ m. int_lt k m) s in
    let under_k : All (λ m. int_lt m k ≡ true) low = filter_passes (λ m. int_lt m k) s in
    let over_k : All (λ m. int_lt k m ≡ true) high = filter_passes (λ m. int_lt k m) s in
    joined low (k ∷ high) (kept_ascends (λ m. int_lt m k) s up) (AllPairs-cons Below k high over_k (kept_ascends (λ m. int_lt k m) s up))
    (λ i d lt. let x = get_or low i d in
    All-cons (Below x) k high (under_k i d lt) (λ j e inside. under x k (get_or high j e) (under_k i d lt) (over_k j e inside)))
