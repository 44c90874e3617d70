-- Products of values of integer kinds.
use Rattle.std.proofs.Common.{◌≡◌, ℕ, zero, suc, ◌-◌, ◌*◌, ◌^◌, ◌<◌, ◌≤◌, min, Bool, true, false, cond, ltb, ℤ, pos, negsuc, neg_ℤ, ◌*ℤ◌, refl, ap, arith}
use Rattle.std.specs.Int.{w128, saturate_signed, int_min}
use Rattle.std.proofs.lemmas.Int.{ints}
use Rattle.std.proofs.Math.Nat.{mul-le-mul}
use borrow.Author.Tests.{ltb-false, ltb-true}
use Rattle.r2_num.specs.Operations.{IsAnyValue}

cap : (n m : ℕ) → pos (min n m) ≡ int_min (pos n) (pos m)
cap n m = by (ltb m n) refl
  where
    by : (t : Bool) → ltb m n ≡ t → pos (min n m) ≡ cond t (pos m) (pos n)
    by true e = let less : m < n = ltb-true m n e in ap pos (omega arith)
    by false e = let less : n ≤ m = ltb-false m n e in ap pos (omega arith)

floor : (n : ℕ) → n ≤ 2 ^ 127 → saturate_signed w128 (neg_ℤ (pos n)) ≡ int_min (neg_ℤ (pos n)) (pos (2 ^ 127 - 1))
floor zero h = refl
floor (suc n) h = ap negsuc (omega arith)

-- the product of two values of integer kinds isn't below the least 128-bit number
pub saturates : (a b : ℤ) → IsAnyValue a → IsAnyValue b → saturate_signed w128 (a *ℤ b) ≡ int_min (a *ℤ b) (pos (2 ^ 127 - 1))
saturates (pos a) (pos b) p q = cap (a * b) (2 ^ 127 - 1)
saturates (pos a) (negsuc b) p q =
    let left : a ≤ 2 ^ 64 = omega (arith, ints) in
    let right : suc b ≤ 2 ^ 63 = omega (arith, ints) in
    let product : a * suc b ≤ 2 ^ 64 * 2 ^ 63 = mul-le-mul left right in
    floor (a * suc b) product
saturates (negsuc a) (pos b) p q =
    let left : suc a ≤ 2 ^ 63 = omega (arith, ints) in
    let right : b ≤ 2 ^ 64 = omega (arith, ints) in
    let product : suc a * b ≤ 2 ^ 63 * 2 ^ 64 = mul-le-mul left right in
    floor (suc a * b) product
saturates (negsuc a) (negsuc b) p q = cap (suc a * suc b) (2 ^ 127 - 1)
