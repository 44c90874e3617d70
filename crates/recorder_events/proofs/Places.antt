-- A block of any size has a place in a pool, or is given none.
use Rattle.std.proofs.Common.{◌≡◌, ◌⊎◌, inl, inr, ⊎_elim, ℕ, zero, suc, ◌+◌, ◌%◌, ◌<◌, ◌≤◌, List, [], ◌∷◌, refl, subst, arith}
use Rattle.std.proofs.lemmas.Bool.{cases_eq, cases_lt}
use Rattle.marks.specs.Places.{pool_size, alignment}
use Rattle.marks.specs.declared.range.Range.{Range}
use Rattle.replay_runs.specs.Pool.{Fits, IsPlace, MeetsNone}

abbrev Decided : Type 0 → Type 0
Decided P = P ⊎ ¬ P

-- of the numbers below n one is the least with a property that can be decided, or none has it
module _ (P : ℕ → Type 0) (decide : (x : ℕ) → Decided (P x)) where
  abbrev Least : ℕ → Type 0
  Least x = P x × ((y : ℕ) → P y → x ≤ y)

  least : (n : ℕ) → ((x : ℕ) × Least x) ⊎ ((x : ℕ) → x < n → ¬ P x)
  least zero = inr (λ x lt p. omega (arith, lt))
  least (suc n) = ⊎_elim inl here (least n)
    where
      here : ((x : ℕ) → x < n → ¬ P x) → ((x : ℕ) × Least x) ⊎ ((x : ℕ) → x < suc n → ¬ P x)
      here none = ⊎_elim
          (λ p. inl (n, (p, λ y q. ⊎_elim (λ lt. absurd (none y lt q)) (λ le. le) (cases_lt y n))))
          (λ np. inr (λ x lt q. ⊎_elim (λ below. none x below q) (λ le. np (subst P (omega (arith, lt, le)) q)) (cases_lt x n)))
          (decide n)

decide_le : (a b : ℕ) → Decided (a ≤ b)
decide_le a b = ⊎_elim (λ lt. inr (λ le. omega (arith, lt, le))) inl (cases_lt b a)

decide_eq : (a b : ℕ) → Decided (a ≡ b)
decide_eq a b = cases_eq a b

both : {P Q : Type 0} → Decided P → Decided Q → Decided (P × Q)
both p q = ⊎_elim (λ a. ⊎_elim (λ b. inl (a, b)) (λ nb. inr (λ c. nb c.1)) q) (λ na. inr (λ c. na c.0)) p

either : {P Q : Type 0} → Decided P → Decided Q → Decided (P ⊎ Q)
either p q = ⊎_elim (λ a. inl (inl a)) (λ na. ⊎_elim (λ b. inl (inr b)) (λ nb. inr (λ c. ⊎_elim na nb c)) q) p

decide_free : (bs : List Range) (at size : ℕ) → Decided (MeetsNone bs at size)
decide_free [] at size = inl tt
decide_free (b ∷ bs) at size = both (either (decide_le (b.addr + b.len) at) (decide_le (at + size) b.addr)) (decide_free bs at size)

module _ (pool : ℕ) (bs : List Range) (size : ℕ) where
  decide_fits : (at : ℕ) → Decided (Fits pool bs size at)
  decide_fits at =
      ⊎_elim
      (λ h. inl (record { some = h.0; aligned = h.1.0; low = h.1.1.0; high = h.1.1.1.0; free = h.1.1.1.1 }))
      (λ nh. inr (λ f. nh (f.some, (f.aligned, (f.low, (f.high, f.free))))))
      (both (decide_le 1 size) (both (decide_eq (at % alignment) 0) (both (decide_le pool at) (both (decide_le (at + size) (pool + pool_size)) (decide_free bs at size)))))

  pub place_is_there : (at : ℕ) × IsPlace pool bs size at
  place_is_there =
      ⊎_elim
      (λ h. (h.0, inl (h.1.0, h.1.1)))
      (λ none. (0, inr (refl, λ x f. let a = f.some in let b = f.high in none x (omega (arith, a, b)) f)))
      (least (Fits pool bs size) decide_fits (pool + pool_size))
