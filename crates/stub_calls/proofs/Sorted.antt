-- Keys that are put in their places.
use Rattle.std.proofs.Common.{◌≡◌, ℕ, zero, suc, ◌+◌, ◌-◌, ◌<◌, ◌≤◌, Bool, true, false, cond, List, [], ◌∷◌, ◌++◌, length, get_or, map, take, drop, refl, sym, ap, ◌∙◌, arith, append_assoc, Result, Ok, Err, OnOk}
use Rattle.std.proofs.lemmas.List.{take_more, take-append-drop}
use Rattle.std.proofs.Math.Seq.{drop-cons, drop-length}
use Rattle.std.specs.List.{insert}
use Rattle.run_events.specs.declared.key.Key.{Key}
use Rattle.replay_runs.specs.Runs.{same_key}
use Rattle.replay_runs.specs.Keys.{key_before, sorted_keys, with_key}
use Rattle.stub_calls.specs.Calls.{with_keys}

-- ---- one key

-- the keys before a place all come before the new one
abbrev pub Passed : Key → List Key → ℕ → Type 0
Passed k js n = with_key k js ≡ take n js ++ with_key k (drop n js)

with_at : (k j : Key) (js : List Key) (a b : Bool) → same_key k j ≡ a → key_before k j ≡ b → with_key k (j ∷ js) ≡ cond a (j ∷ js) (cond b (k ∷ j ∷ js) (j ∷ with_key k js))
with_at k j js a b s c = ap (λ x. cond x (j ∷ js) (cond (key_before k j) (k ∷ j ∷ js) (j ∷ with_key k js))) s ∙ ap (λ y. cond a (j ∷ js) (cond y (k ∷ j ∷ js) (j ∷ with_key k js))) c

module _ (k : Key) (js : List Key) (n : ℕ) (d : Key) (lt : n < length js) where
  here : drop n js ≡ get_or js n d ∷ drop (n + 1) js
  here = let one : suc n ≡ n + 1 = omega arith in drop-cons js n d lt ∙ ap (λ m. get_or js n d ∷ drop m js) one

  pub passes : Passed k js n → same_key k (get_or js n d) ≡ false → key_before k (get_or js n d) ≡ false → Passed k js (n + 1)
  passes was s b =
      was ∙ (ap (λ xs. take n js ++ with_key k xs) here
      ∙ (ap (λ xs. take n js ++ xs) (with_at k (get_or js n d) (drop (n + 1) js) false false s b)
      ∙ (sym (append_assoc (take n js) (get_or js n d ∷ []) (with_key k (drop (n + 1) js)))
      ∙ ap (λ xs. xs ++ with_key k (drop (n + 1) js)) (sym (take_more js n d lt)))))

  -- it is there
  pub stays : Passed k js n → same_key k (get_or js n d) ≡ true → js ≡ with_key k js
  stays was s = sym (was ∙ (ap (λ xs. take n js ++ with_key k xs) here
      ∙ (ap (λ xs. take n js ++ xs) (with_at k (get_or js n d) (drop (n + 1) js) true (key_before k (get_or js n d)) s refl ∙ sym here)
      ∙ take-append-drop n js)))

  -- or it comes before the one that stands there
  pub goes_in : Passed k js n → same_key k (get_or js n d) ≡ false → key_before k (get_or js n d) ≡ true → insert js n k ≡ with_key k js
  goes_in was s b = inserted js n ∙ sym (was ∙ (ap (λ xs. take n js ++ with_key k xs) here
      ∙ ap (λ xs. take n js ++ xs) (with_at k (get_or js n d) (drop (n + 1) js) false true s b ∙ ap (λ xs. k ∷ xs) (sym here))))
    where
      inserted : (xs : List Key) (m : ℕ) → insert xs m k ≡ take m xs ++ k ∷ drop m xs
      inserted xs m = refl

-- or after all
pub goes_last : (k : Key) (js : List Key) (n : ℕ) → length js ≤ n → Passed k js n → js ++ k ∷ [] ≡ with_key k js
goes_last k js n le was = sym (was ∙ (ap (λ xs. take n js ++ with_key k xs) (none js n le) ∙ ap (λ xs. xs ++ k ∷ []) (all js n le)))
  where
    none : (xs : List Key) (m : ℕ) → length xs ≤ m → drop m xs ≡ []
    none [] zero le = refl
    none [] (suc m) le = refl
    none (x ∷ xs) zero le = absurd (omega (arith, le))
    none (x ∷ xs) (suc m) le = none xs m (omega (arith, le))

    all : (xs : List Key) (m : ℕ) → length xs ≤ m → take m xs ≡ xs
    all [] zero le = refl
    all [] (suc m) le = refl
    all (x ∷ xs) zero le = absurd (omega (arith, le))
    all (x ∷ xs) (suc m) le = ap (λ ys. x ∷ ys) (all xs m (omega (arith, le)))

-- ---- some keys, the last of them first

abbrev pub Put : {X : Type 0} (f : X → Key) (xs : List X) (n : ℕ) (before now : List Key) → Type 0
Put f xs n before now = now ≡ with_keys (map f (drop (length xs - n) xs)) before

pub none_put : {X : Type 0} (f : X → Key) (xs : List X) (before : List Key) → Put f xs 0 before before
none_put f xs before = let all : length xs ≡ length xs - 0 = omega arith in ap (λ ys. with_keys (map f ys) before) (sym (drop-length xs)) ∙ ap (λ i. with_keys (map f (drop i xs)) before) all

pub more_put : {X : Type 0} (f : X → Key) (xs : List X) (n : ℕ) (d : X) (before now next : List Key) → n < length xs → Put f xs n before now → next ≡ with_key (f (get_or xs (length xs - 1 - n) d)) now → Put f xs (n + 1) before next
more_put f xs n d before now next lt was is =
    let j : ℕ = length xs - (n + 1) in
    let at : length xs - 1 - n ≡ j = omega (arith, lt) in
    let on : suc j ≡ length xs - n = omega (arith, lt) in
    let there : j < length xs = omega (arith, lt) in
    is ∙ (ap (λ i. with_key (f (get_or xs i d)) now) at ∙ (ap (with_key (f (get_or xs j d))) (was ∙ ap (λ i. with_keys (map f (drop i xs)) before) (sym on))
    ∙ ap (λ ys. with_keys (map f ys) before) (sym (drop-cons xs j d there))))

pub all_put : {X : Type 0} (f : X → Key) (xs : List X) (n : ℕ) (before now : List Key) → length xs ≤ n → Put f xs n before now → now ≡ with_keys (map f xs) before
all_put f xs n before now le was = let none : length xs - n ≡ 0 = omega (arith, le) in was ∙ ap (λ i. with_keys (map f (drop i xs)) before) none

pub themselves : (ks : List Key) → map (λ (k : Key). k) ks ≡ ks
themselves [] = refl
themselves (k ∷ ks) = ap (λ js. k ∷ js) (themselves ks)

-- ---- all together

pub in_order : (ks : List Key) → with_keys ks [] ≡ sorted_keys ks
in_order [] = refl
in_order (k ∷ ks) = ap (with_key k) (in_order ks)

pub in_order_both : (ks js : List Key) → with_keys ks (sorted_keys js) ≡ sorted_keys (ks ++ js)
in_order_both [] js = refl
in_order_both (k ∷ ks) js = ap (with_key k) (in_order_both ks js)

pub ok_so : {A E : Type 0} {P Q : Type 0} (r : Result A E) → (P → Q) → OnOk r P → OnOk r Q
ok_so (Ok a) f p = f p
ok_so (Err e) f p = tt
