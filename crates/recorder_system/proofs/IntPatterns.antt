-- Ints and their patterns.
use Rattle.std.proofs.Common.{◌≡◌, ◌≢◌, ◌⊎◌, inl, inr, ℕ, ◌<◌, ℤ, pos, negsuc, Bool, true, false, refl, sym, ap, ◌∙◌, arith, eqb-true}
use Rattle.std.specs.Ordering.{int_eq}
use Rattle.std.proofs.lemmas.Int.{ints}
use Rattle.std.proofs.lemmas.Bool.Decides.{Decides-int_eq}
use Rattle.c_code.specs.Values.{written}
use Rattle.recorder_system.specs.Stands.{IsInt, int_of}

pub same_ints : (x y : ℤ) → x ≡ y → int_eq x y ≡ true
same_ints x y e = (Decides-int_eq x y).1 e

pub equal_ints : (x y : ℤ) → int_eq x y ≡ true → x ≡ y
equal_ints x y e = (Decides-int_eq x y).0 e

pub other_ints : (x y : ℤ) → x ≢ y → int_eq x y ≡ false
other_ints x y ne = go (int_eq x y) refl
  where
    go : (b : Bool) → int_eq x y ≡ b → b ≡ false
    go true e = absurd (ne (equal_ints x y e))
    go false e = refl

-- an int is the pattern of its number
pub pattern_back : (v : ℕ) → IsInt v → written (int_of v) ≡ v
pattern_back v is = eqb-true (written (int_of v)) v is

pub same_int : (j k : ℕ) → IsInt j → IsInt k → int_of j ≡ int_of k → j ≡ k
same_int j k a b e = sym (pattern_back j a) ∙ (ap written e ∙ pattern_back k b)

-- one that isn't negative is its number; another one is greater than any number of a thread
pub small_or_great : (v : ℕ) → IsInt v → (int_of v ≡ pos v) ⊎ ((n : ℕ) × (int_of v ≡ negsuc n) × (32 < v))
small_or_great v is = by (int_of v) refl
  where
    by : (z : ℤ) → int_of v ≡ z → (int_of v ≡ pos v) ⊎ ((n : ℕ) × (int_of v ≡ negsuc n) × (32 < v))
    by (pos n) e =
        let back : written (pos n) ≡ v = ap written (sym e) ∙ pattern_back v is in
        let same : n ≡ v = omega (arith, ints, back, e) in
        inl (e ∙ ap pos same)
    by (negsuc n) e =
        let back : written (negsuc n) ≡ v = ap written (sym e) ∙ pattern_back v is in
        inr (n, e, omega (arith, ints, back, e))
