-- What a value is converted to is a value of the type.
use Rattle.std.proofs.Common.{◌≡◌, ℕ, ◌+◌, ◌-◌, ◌*◌, ◌/◌, ◌%◌, ◌^◌, ◌<◌, ◌≤◌, ℤ, pos, ◌+ℤ◌, ◌-ℤ◌, true, refl, sym, ap, ◌∙◌, arith, mul-le-mul_left, eq-eqb}
use Rattle.std.proofs.lemmas.Bool.{lt-ltb}
use Rattle.std.specs.Prelude.{unsigned_abs}
use Rattle.std.specs.Int.{int_rem_euclid}
use Rattle.std.proofs.lemmas.Int.{ints, int_rem_euclid_is}
use Rattle.std.proofs.lemmas.Nat.{pow_pos}
use Rattle.std.proofs.Math.Nat.{div-add-mod, mul_assoc, mod-lt}
use borrow.Author.Differences.{up, down}
use Rattle.r2_num.specs.declared.kinds.IntKind.{IntKind}
use Rattle.r2_num.specs.declared.kinds.IntKind.TheVariants.{I8, U8, I16, U16, I32, U32, I64, U64}
use Rattle.r2_num.specs.Kinds.{width_of, least}
use Rattle.r2_num.specs.Conversions.{wrapped, pattern_of}
use Rattle.c_code.specs.declared.shape.Shape.{Shape}
use Rattle.c_code.specs.declared.shape.Shape.TheVariants as shapes
use Rattle.c_code.specs.Values.{converted, is_value}
use Rattle.c_types_model.specs.Types.{CType, Void, Integer, PointerTo, ArrayOf, StructOf, UndefinedStruct, FunctionOf}
use Rattle.c_semantics.specs.Context.{shape_of}
use Rattle.c_semantics.specs.Values.{converted_to, is_read}

-- what is left of z differs from it by a multiple of n
pub record Left (n : ℕ) (z : ℤ) : Type 0 where
  pub rest : ℕ
  pub more : ℕ
  pub fewer : ℕ
  pub is : int_rem_euclid z (pos n) ≡ pos rest
  pub apart : pos rest +ℤ pos (more * n) ≡ z +ℤ pos (fewer * n)
  pub small : rest < n

left : (n : ℕ) (z : ℤ) → 0 < n → Left n z
left n z some =
    let far : down z * 1 ≤ down z * n = mul-le-mul_left (down z) some in
    let m = up z + down z * n - down z in
    let whole : z +ℤ pos (down z * n) ≡ pos m = omega (arith, ints) in
    let split : n * (m / n) + m % n ≡ m = div-add-mod m n in
    record {
      rest = m % n;
      more = m / n;
      fewer = down z;
      is = int_rem_euclid_is z (pos n) n (down z) m some refl whole;
      apart = omega (arith, ints);
      small = mod-lt m some;
    }

-- what differs by multiples of n leaves the same
same_left : (n : ℕ) (a b : ℤ) (i j : ℕ) → 0 < n → a +ℤ pos (i * n) ≡ b +ℤ pos (j * n) → int_rem_euclid a (pos n) ≡ int_rem_euclid b (pos n)
same_left n a b i j some e =
    let t = down a + down b in
    let far : t * 1 ≤ t * n = mul-le-mul_left t some in
    let m = up a + (i + t) * n - down a in
    let of_a : a +ℤ pos ((i + t) * n) ≡ pos m = omega (arith, ints) in
    let of_b : b +ℤ pos ((j + t) * n) ≡ pos m = omega (arith, ints) in
    int_rem_euclid_is a (pos n) n (i + t) m some refl of_a ∙ sym (int_rem_euclid_is b (pos n) n (j + t) m some refl of_b)

-- 2 ^ 64 is a multiple of 2 to the width
times : (k : IntKind) → (t : ℕ) × (2 ^ 64 ≡ t * 2 ^ width_of k)
times I8 = (2 ^ 56, refl)
times U8 = (2 ^ 56, refl)
times I16 = (2 ^ 48, refl)
times U16 = (2 ^ 48, refl)
times I32 = (2 ^ 32, refl)
times U32 = (2 ^ 32, refl)
times I64 = (1, refl)
times U64 = (1, refl)

-- a pattern is read as the value that it was made of
again : (k : IntKind) (z : ℤ) → wrapped k (pos (pattern_of U64 (wrapped k z))) ≡ wrapped k z
again k z =
    let n = 2 ^ width_of k in
    let w = wrapped k z in
    let p = left (2 ^ 64) w (pow_pos 64) in
    let q = left n (z -ℤ least k) (pow_pos (width_of k)) in
    let t = times k in
    let is : pattern_of U64 w ≡ p.rest = ap unsigned_abs p.is in
    let wrap : w ≡ least k +ℤ pos q.rest = ap (λ r. least k +ℤ r) q.is in
    let far : p.more * 2 ^ 64 ≡ p.more * t.0 * n = ap (λ x. p.more * x) t.1 ∙ sym (mul_assoc p.more t.0 n) in
    let near : p.fewer * 2 ^ 64 ≡ p.fewer * t.0 * n = ap (λ x. p.fewer * x) t.1 ∙ sym (mul_assoc p.fewer t.0 n) in
    let apart : pos p.rest +ℤ pos (p.more * t.0 * n) ≡ w +ℤ pos (p.fewer * t.0 * n) = sym (ap (λ x. pos p.rest +ℤ pos x) far) ∙ p.apart ∙ ap (λ x. w +ℤ pos x) near in
    ap (λ r. least k +ℤ r) (same_left n (pos (pattern_of U64 w) -ℤ least k) (z -ℤ least k) (p.more * t.0 + q.more) (p.fewer * t.0 + q.fewer) (pow_pos (width_of k)) (omega (arith, ints, is, wrap, apart, q.apart)))

converted_twice : (k : IntKind) (n : ℕ) → converted k (converted k n) ≡ converted k n
converted_twice k n = ap (pattern_of U64) (again k (pos n))

converted_small : (k : IntKind) (n : ℕ) → converted k n < 2 ^ 64
converted_small k n =
    let p = left (2 ^ 64) (wrapped k (pos n)) (pow_pos 64) in
    let is : converted k n ≡ p.rest = ap unsigned_abs p.is in
    omega (arith, is, p.small)

pub converted_is_value : (t : CType) (n : ℕ) → is_read t ≡ true → is_value (shape_of t) (converted_to t n) ≡ true
converted_is_value (Integer k) n e = eq-eqb (converted k (converted k n)) (converted k n) (converted_twice k n)
converted_is_value (PointerTo t) n e = lt-ltb (converted U64 n) (2 ^ 64) (converted_small U64 n)
converted_is_value Void n e = absurd cc
converted_is_value (ArrayOf m t) n e = absurd cc
converted_is_value (StructOf m) n e = absurd cc
converted_is_value (UndefinedStruct tag) n e = absurd cc
converted_is_value (FunctionOf t ts) n e = absurd cc

-- 0 is a value of each type
pub zero_is_value : (s : Shape) → is_value s 0 ≡ true
zero_is_value shapes.Void = refl
zero_is_value shapes.Pointer = refl
zero_is_value (shapes.Int I8) = refl
zero_is_value (shapes.Int U8) = refl
zero_is_value (shapes.Int I16) = refl
zero_is_value (shapes.Int U16) = refl
zero_is_value (shapes.Int I32) = refl
zero_is_value (shapes.Int U32) = refl
zero_is_value (shapes.Int I64) = refl
zero_is_value (shapes.Int U64) = refl
