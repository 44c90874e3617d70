-- Different numbers below n are at most n.
use Rattle.std.proofs.Common.{◌≡◌, ◌≢◌, inl, inr, ℕ, zero, suc, ◌<◌, ◌≤◌, List, [], ◌∷◌, length, true, false, eqb, refl, ap, arith}
use Rattle.std.specs.List.{AllByRecursion, IsDistinct, list_any}
use Rattle.std.proofs.lemmas.Bool.{or_cases}
use Rattle.std.proofs.lemmas.Bool.Decides.{eqb_tells}
use Rattle.std.proofs.lemmas.Map.Keys.{IsDistinct-cons}
use Rattle.std.proofs.lemmas.Map.Steps.{length-le_from_distinct_below}

-- the values of a function at the numbers below r
values : (ℕ → ℕ) → ℕ → List ℕ
values f zero = []
values f (suc r) = f r ∷ values f r

length_values : (f : ℕ → ℕ) (r : ℕ) → length (values f r) ≡ r
unfolding values
length_values f zero = refl
length_values f (suc r) = ap suc (length_values f r)

apart : (a b : ℕ) → a ≢ b → eqb a b ≡ false
apart a b n = elim (eqb_tells a b) [ inl h ↦ absurd (n h.1) | inr h ↦ h.0 ]

same : (a b : ℕ) → eqb a b ≡ true → a ≡ b
same a b h = elim (eqb_tells a b) [ inl k ↦ k.1 | inr k ↦ absurd cc ]

below_values : (n : ℕ) (f : ℕ → ℕ) (r : ℕ) → ((k : ℕ) → k < r → f k < n) → (q : ℕ) → list_any (eqb q) (values f r) ≡ true → q < n
unfolding values
below_values n f zero below q h = absurd cc
below_values n f (suc r) below q h = elim (or_cases (eqb q (f r)) (list_any (eqb q) (values f r)) h) [ inl e ↦ omega (arith, same q (f r) e, below r (omega arith)) | inr e ↦ below_values n f r (λ k p. below k (omega arith)) q e ]

apart_values : (f : ℕ → ℕ) (v j : ℕ) → ((k : ℕ) → k < j → v ≢ f k) → AllByRecursion (λ y. eqb v y ≡ false) (values f j)
unfolding values
apart_values f v zero differ = tt
apart_values f v (suc j) differ = (apart v (f j) (differ j (omega arith)), apart_values f v j (λ k h. differ k (omega arith)))

distinct_values : (f : ℕ → ℕ) (r : ℕ) → ((j k : ℕ) → j < r → k < r → f j ≡ f k → j ≡ k) → IsDistinct eqb (values f r)
unfolding values IsDistinct
distinct_values f zero one = tt
distinct_values f (suc r) one = IsDistinct-cons eqb (f r) (values f r) (apart_values f (f r) r (λ k h e. absurd (omega (arith, one r k (omega arith) (omega arith) e)))) (distinct_values f r (λ j k p q e. one j k (omega arith) (omega arith) e))

pub no_more : (r n : ℕ) (f : ℕ → ℕ) → ((k : ℕ) → k < r → f k < n) → ((j k : ℕ) → j < r → k < r → f j ≡ f k → j ≡ k) → r ≤ n
no_more r n f below one =
    let few : length (values f r) ≤ n = length-le_from_distinct_below (values f r) n (distinct_values f r one) (below_values n f r below) in
    omega (arith, length_values f r, few)
