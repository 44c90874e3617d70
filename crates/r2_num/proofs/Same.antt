-- What differs by a multiple of 2 to the width wraps to the same value.
use Rattle.std.proofs.Common.{◌≡◌, ℕ, suc, ◌+◌, ◌-◌, ◌*◌, ◌/◌, ◌%◌, ◌^◌, ◌<◌, ◌≤◌, ℤ, pos, negsuc, ◌+ℤ◌, ◌-ℤ◌, refl, sym, ap, ◌∙◌, arith, to_z, mul-le-mul_left, ltb, Bool, true, false}
use Rattle.std.specs.Prelude.{unsigned_abs}
use Rattle.std.specs.Int.{w128, int_rem_euclid, int_wrap}
use Rattle.std.proofs.lemmas.Int.{ints, int_rem_euclid_is, to_z_pos}
use Rattle.std.proofs.lemmas.Nat.{pow_pos}
use Rattle.std.proofs.Math.Facts.{to_z-neg}
use borrow.Author.Tests.{ltb-false, ltb-true}
use Rattle.std.proofs.Math.Nat.{div-add-mod, mul_assoc, mod-lt}
use borrow.Author.Differences.{up, down}
use Rattle.r2_num.specs.declared.kinds.IntKind.{IntKind}
use Rattle.r2_num.specs.declared.kinds.IntKind.TheVariants.{I8, U8, I16, U16, I32, U32, I64, U64}
use Rattle.r2_num.specs.Kinds.{width_of, least}
use Rattle.r2_num.specs.Conversions.{wrapped}

rem_same : (n : ℕ) (a b : ℤ) (i j : ℕ) → 0 < n → a +ℤ pos (i * n) ≡ b +ℤ pos (j * n) → int_rem_euclid a (pos n) ≡ int_rem_euclid b (pos n)
rem_same n a b i j some e =
    let t = down a + down b in
    let far : t * 1 ≤ t * n = mul-le-mul_left t some in
    let m = up a + (i + t) * n - down a in
    let from : (z : ℤ) (h : ℕ) → z +ℤ pos ((h + t) * n) ≡ pos m → int_rem_euclid z (pos n) ≡ pos (m % n) = λ z h s. int_rem_euclid_is z (pos n) n (h + t) m some refl s in
    from a i (omega (arith, ints)) ∙ sym (from b j (omega (arith, ints)))

pub wrapped_same : (k : IntKind) (a b : ℤ) (i j : ℕ) → a +ℤ pos (i * 2 ^ width_of k) ≡ b +ℤ pos (j * 2 ^ width_of k) → wrapped k a ≡ wrapped k b
wrapped_same k a b i j e = ap (λ (r : ℤ). least k +ℤ r) (rem_same (2 ^ width_of k) (a -ℤ least k) (b -ℤ least k) i j (pow_pos (width_of k)) (omega (arith, ints)))

-- 2 ^ 128 is a multiple of 2 to the width
times : (k : IntKind) → (p : ℕ) × (2 ^ 128 ≡ p * 2 ^ width_of k)
times I8 = (2 ^ 120, refl)
times U8 = (2 ^ 120, refl)
times I16 = (2 ^ 112, refl)
times U16 = (2 ^ 112, refl)
times I32 = (2 ^ 96, refl)
times U32 = (2 ^ 96, refl)
times I64 = (2 ^ 64, refl)
times U64 = (2 ^ 64, refl)

near : (n : ℕ) → n < 2 ^ 128 → (i : ℕ) × (to_z w128 n +ℤ pos (i * 2 ^ 128) ≡ pos n)
near n h = by (ltb n (2 ^ 127)) refl
  where
    by : (t : Bool) → ltb n (2 ^ 127) ≡ t → (i : ℕ) × (to_z w128 n +ℤ pos (i * 2 ^ 128) ≡ pos n)
    by true e =
        let low : n < 2 ^ 127 = ltb-true n (2 ^ 127) e in
        let is : to_z w128 n ≡ pos n = to_z_pos w128 n low in
        (0, omega (arith, ints))
    by false e =
        let high : 2 ^ 127 ≤ n = ltb-false n (2 ^ 127) e in
        let k = 2 ^ 128 - (n + 1) in
        let back : n ≡ 2 ^ 128 - suc k = omega arith in
        let is : to_z w128 n ≡ negsuc k = ap (to_z w128) back ∙ to_z-neg w128 k (omega arith) in
        (1, omega (arith, ints))

apart : (z : ℤ) → (i : ℕ) × (j : ℕ) × (int_wrap w128 z +ℤ pos (i * 2 ^ 128) ≡ z +ℤ pos (j * 2 ^ 128))
unfolding int_wrap
apart z =
    let n = 2 ^ 128 in
    let m = up z + down z * n - down z in
    let whole : z +ℤ pos (down z * n) ≡ pos m = omega (arith, ints) in
    let is : int_rem_euclid z (pos n) ≡ pos (m % n) = int_rem_euclid_is z (pos n) n (down z) m (pow_pos 128) refl whole in
    let wraps : int_wrap w128 z ≡ to_z w128 (m % n) = ap (λ (r : ℤ). to_z w128 (unsigned_abs r)) is in
    let close = near (m % n) (mod-lt m (pow_pos 128)) in
    let split : n * (m / n) + m % n ≡ m = div-add-mod m n in
    (close.0 + m / n, down z, omega (arith, ints, wraps, close.1))

-- what is left of a number in 128 bits wraps to the same value
pub wrapped-int_wrap : (k : IntKind) (z : ℤ) → wrapped k (int_wrap w128 z) ≡ wrapped k z
wrapped-int_wrap k z =
    let a = apart z in
    let t = times k in
    let n = 2 ^ width_of k in
    let left : a.0 * 2 ^ 128 ≡ (a.0 * t.0) * n = ap (λ x. a.0 * x) t.1 ∙ sym (mul_assoc a.0 t.0 n) in
    let right : a.1 * 2 ^ 128 ≡ (a.1 * t.0) * n = ap (λ x. a.1 * x) t.1 ∙ sym (mul_assoc a.1 t.0 n) in
    wrapped_same k (int_wrap w128 z) z (a.0 * t.0) (a.1 * t.0) (sym (ap (λ x. int_wrap w128 z +ℤ pos x) left) ∙ a.2 ∙ ap (λ x. z +ℤ pos x) right)
