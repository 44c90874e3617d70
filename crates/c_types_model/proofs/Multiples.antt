-- The next multiple of a number.
use Rattle.std.proofs.Common.{◌≡◌, ℕ, ◌+◌, ◌-◌, ◌*◌, ◌/◌, ◌%◌, ◌<◌, ◌≤◌, ◌⊎◌, Bool, true, false, ltb, inl, inr, refl, ap, ◌∙◌, arith}
use Rattle.std.specs.Int.{next_multiple_of}
use Rattle.std.proofs.Math.Nat.{div-add-mod, mod-lt, mod-eq_of_lt, mod_self, mul-le-mul_right}
use borrow.Author.Tests.{ltb-false, ltb-true}

-- it is the number itself, or one multiple above the greatest one below the number
multiples : (n a : ℕ) → 0 < a → ((k : ℕ) × (n ≡ k * a) × (next_multiple_of n a ≡ k * a)) ⊎ ((k : ℕ) × (k * a < n) × (next_multiple_of n a ≡ (k + 1) * a))
multiples n a some = by (ltb 0 (n % a)) refl
  where
    split : a * (n / a) + n % a ≡ n
    split = div-add-mod n a

    by : (t : Bool) → ltb 0 (n % a) ≡ t → ((k : ℕ) × (n ≡ k * a) × (next_multiple_of n a ≡ k * a)) ⊎ ((k : ℕ) × (k * a < n) × (next_multiple_of n a ≡ (k + 1) * a))
    by true e =
        let rest : 0 < n % a = ltb-true 0 (n % a) e in
        let small : n % a < a = mod-lt n some in
        let less : a - n % a < a = omega arith in
        let same : (a - n % a) % a ≡ a - n % a = mod-eq_of_lt less in
        inr (n / a, omega arith, omega arith)
    by false e =
        let none : n % a ≡ 0 = let h = ltb-false 0 (n % a) e in omega arith in
        let rest : a - n % a ≡ a = omega arith in
        let whole : (a - n % a) % a ≡ 0 = ap (λ r. r % a) rest ∙ mod_self a in
        inl (n / a, omega arith, omega arith)

pub is_multiple : (n a : ℕ) → 0 < a → (k : ℕ) × (next_multiple_of n a ≡ k * a)
is_multiple n a some = elim (multiples n a some) [ inl h ↦ (h.0, h.2) | inr h ↦ (h.0 + 1, h.2) ]

pub is_least : (n a k : ℕ) → 0 < a → n ≤ k * a → next_multiple_of n a ≤ k * a
is_least n a k some h = elim (multiples n a some) [ inl m ↦ omega arith | inr m ↦ above m.0 m.1 m.2 ]
  where
    above : (i : ℕ) → i * a < n → next_multiple_of n a ≡ (i + 1) * a → next_multiple_of n a ≤ k * a
    above i less e = by (ltb i k) refl
      where
        by : (t : Bool) → ltb i k ≡ t → next_multiple_of n a ≤ k * a
        by true t =
            let more : i + 1 ≤ k = let l = ltb-true i k t in omega arith in
            let over : (i + 1) * a ≤ k * a = mul-le-mul_right a more in
            omega arith
        by false t =
            let under : k * a ≤ i * a = mul-le-mul_right a (ltb-false i k t) in
            absurd (omega arith)
