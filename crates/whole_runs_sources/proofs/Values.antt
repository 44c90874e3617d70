-- What a system file may answer is a value of the result's type.
use Rattle.std.proofs.Common.{◌≡◌, ℕ, ◌+◌, ◌-◌, ◌*◌, ◌/◌, ◌%◌, ◌^◌, ◌<◌, ◌≤◌, true, ℤ, pos, negsuc, ◌+ℤ◌, ◌-ℤ◌, ◌≤ℤ◌, eqb, refl, sym, ap, ◌∙◌, arith, mul-le-mul_left}
use Rattle.std.specs.Prelude.{unsigned_abs}
use Rattle.std.specs.Int.{int_rem_euclid}
use Rattle.std.proofs.lemmas.Bool.{eq-eqb, lt-ltb}
use Rattle.std.proofs.lemmas.Int.{ints, int_rem_euclid_is}
use Rattle.std.proofs.lemmas.Nat.{pow_pos}
use Rattle.std.proofs.Math.Nat.{div-add-mod, mul_assoc, mod-eq_of_lt}
use borrow.Author.Differences.{up, down}
use Rattle.r2_num.specs.declared.kinds.IntKind.{IntKind}
use Rattle.r2_num.specs.declared.kinds.IntKind.TheVariants.{I8, U8, I16, U16, I32, U32, I64, U64}
use Rattle.r2_num.specs.Kinds.{width_of, least, IsValue}
use Rattle.r2_num.specs.Conversions.{wrapped}
use Rattle.c_code.specs.Values.{converted, is_value, read, written}
use Rattle.c_types_model.specs.Types.{CType, Void, Integer, PointerTo, ArrayOf, StructOf, UndefinedStruct, FunctionOf}
use Rattle.c_types_rules.specs.Sources.{result_of}
use Rattle.c_semantics.specs.Context.{shape_of}
use Rattle.sys_script_lines.specs.Fits.{IsInRange, below_zero, up_to}
use Rattle.sys_script.specs.Externals.{kind_range, range_of, result_range}

-- ---- a value of a kind is read from its pattern

-- what differs by multiples of n leaves the same
rem_same : (n : ℕ) (a b : ℤ) (i j : ℕ) → 0 < n → a +ℤ pos (i * n) ≡ b +ℤ pos (j * n) → int_rem_euclid a (pos n) ≡ int_rem_euclid b (pos n)
rem_same n a b i j some e =
    let t = down a + down b in
    let far : t * 1 ≤ t * n = mul-le-mul_left t some in
    let m = up a + (i + t) * n - down a in
    let of_a : a +ℤ pos ((i + t) * n) ≡ pos m = omega (arith, ints) in
    let of_b : b +ℤ pos ((j + t) * n) ≡ pos m = omega (arith, ints) in
    int_rem_euclid_is a (pos n) n (i + t) m some refl of_a ∙ sym (int_rem_euclid_is b (pos n) n (j + t) m some refl of_b)

wrapped_same : (k : IntKind) (a b : ℤ) (i j : ℕ) → a +ℤ pos (i * 2 ^ width_of k) ≡ b +ℤ pos (j * 2 ^ width_of k) → wrapped k a ≡ wrapped k b
wrapped_same k a b i j e = ap (λ (r : ℤ). least k +ℤ r) (rem_same (2 ^ width_of k) (a -ℤ least k) (b -ℤ least k) i j (pow_pos (width_of k)) (omega (arith, ints)))

same_eqb : (n : ℕ) → eqb n n ≡ true
same_eqb n = eq-eqb n n refl

-- how far a value of a kind lies above the least
above : (k : IntKind) (v : ℤ) → IsValue k v → (pos 0 ≤ℤ (v -ℤ least k)) × (((v -ℤ least k) +ℤ pos 1) ≤ℤ pos (2 ^ width_of k))
above I8 v h = (omega (arith, ints), omega (arith, ints))
above U8 v h = (omega (arith, ints), omega (arith, ints))
above I16 v h = (omega (arith, ints), omega (arith, ints))
above U16 v h = (omega (arith, ints), omega (arith, ints))
above I32 v h = (omega (arith, ints), omega (arith, ints))
above U32 v h = (omega (arith, ints), omega (arith, ints))
above I64 v h = (omega (arith, ints), omega (arith, ints))
above U64 v h = (omega (arith, ints), omega (arith, ints))

-- a number that is left as it is
small_left : (n : ℕ) (z : ℤ) → 0 < n → pos 0 ≤ℤ z → (z +ℤ pos 1) ≤ℤ pos n → int_rem_euclid z (pos n) ≡ z
small_left n (pos a) some low high = let lt : a < n = omega (arith, ints) in ap pos (mod-eq_of_lt lt)
small_left n (negsuc a) some low high = absurd (omega (arith, ints))

wrapped_value : (k : IntKind) (v : ℤ) → IsValue k v → wrapped k v ≡ v
wrapped_value k v h =
    let far = above k v h in
    let same : int_rem_euclid (v -ℤ least k) (pos (2 ^ width_of k)) ≡ v -ℤ least k = small_left (2 ^ width_of k) (v -ℤ least k) (pow_pos (width_of k)) far.0 far.1 in
    ap (λ (r : ℤ). least k +ℤ r) same ∙ omega (arith, ints)

-- 2 ^ 64 is a multiple of 2 to the width
times : (k : IntKind) → (t : ℕ) × (2 ^ 64 ≡ t * 2 ^ width_of k)
times I8 = (2 ^ 56, refl)
times U8 = (2 ^ 56, refl)
times I16 = (2 ^ 48, refl)
times U16 = (2 ^ 48, refl)
times I32 = (2 ^ 32, refl)
times U32 = (2 ^ 32, refl)
times I64 = (1, refl)
times U64 = (1, refl)

read_written : (k : IntKind) (z : ℤ) → read k (written z) ≡ wrapped k z
read_written k z =
    let n = 2 ^ 64 in
    let t = times k in
    let m = up z + down z * n - down z in
    let far : down z * 1 ≤ down z * n = mul-le-mul_left (down z) (pow_pos 64) in
    let whole : z +ℤ pos (down z * n) ≡ pos m = omega (arith, ints) in
    let is : int_rem_euclid z (pos n) ≡ pos (m % n) = int_rem_euclid_is z (pos n) n (down z) m (pow_pos 64) refl whole in
    let split : n * (m / n) + m % n ≡ m = div-add-mod m n in
    let more : (m / n) * n ≡ (m / n) * t.0 * 2 ^ width_of k = ap (λ x. (m / n) * x) t.1 ∙ sym (mul_assoc (m / n) t.0 (2 ^ width_of k)) in
    let less : down z * n ≡ down z * t.0 * 2 ^ width_of k = ap (λ x. down z * x) t.1 ∙ sym (mul_assoc (down z) t.0 (2 ^ width_of k)) in
    ap (λ x. read k (unsigned_abs x)) is ∙ wrapped_same k (pos (m % n)) z ((m / n) * t.0) (down z * t.0) (omega (arith, ints, more, less))

-- the pattern of a value of a kind is a value of it
of_value : (k : IntKind) (v : ℤ) (r : ℕ) → IsValue k v → written v ≡ r → eqb (converted k r) r ≡ true
of_value k v r h e =
    let back : converted k (written v) ≡ written v = ap written (read_written k v ∙ wrapped_value k v h) in
    let same : converted k r ≡ r = ap (converted k) (sym e) ∙ (back ∙ e) in
    ap (λ x. eqb x r) same ∙ same_eqb r

-- ---- results

written_pos : (n : ℕ) → n < 2 ^ 64 → written (pos n) ≡ n
written_pos n h = mod-eq_of_lt h

written_neg : (n : ℕ) → n < 2 ^ 64 → written (negsuc n) ≡ 2 ^ 64 - (n + 1)
written_neg n h = let same : n % 2 ^ 64 ≡ n = mod-eq_of_lt h in omega (arith, same)

-- the range of a kind
small : (k : IntKind) (r : ℕ) → r ≤ (kind_range k).1 → IsValue k (pos r) × (r < 2 ^ 64)
small I8 r h = ((omega (arith, ints), omega (arith, ints)), omega (arith, h))
small U8 r h = ((omega (arith, ints), omega (arith, ints)), omega (arith, h))
small I16 r h = ((omega (arith, ints), omega (arith, ints)), omega (arith, h))
small U16 r h = ((omega (arith, ints), omega (arith, ints)), omega (arith, h))
small I32 r h = ((omega (arith, ints), omega (arith, ints)), omega (arith, h))
small U32 r h = ((omega (arith, ints), omega (arith, ints)), omega (arith, h))
small I64 r h = ((omega (arith, ints), omega (arith, ints)), omega (arith, h))
small U64 r h = ((omega (arith, ints), omega (arith, ints)), omega (arith, h))

near_zero : (k : IntKind) (n : ℕ) → n < (kind_range k).0 → IsValue k (negsuc n) × (n < 2 ^ 64)
near_zero I8 n h = ((omega (arith, ints), omega (arith, ints)), omega (arith, h))
near_zero U8 n h = absurd (omega (arith, h))
near_zero I16 n h = ((omega (arith, ints), omega (arith, ints)), omega (arith, h))
near_zero U16 n h = absurd (omega (arith, h))
near_zero I32 n h = ((omega (arith, ints), omega (arith, ints)), omega (arith, h))
near_zero U32 n h = absurd (omega (arith, h))
near_zero I64 n h = ((omega (arith, ints), omega (arith, ints)), omega (arith, h))
near_zero U64 n h = absurd (omega (arith, h))

integer_fits : (k : IntKind) (r : ℕ) → IsInRange (kind_range k).0 (kind_range k).1 r → is_value (shape_of (Integer k)) r ≡ true
integer_fits k r (up_to h) = let s = small k r h in of_value k (pos r) r s.0 (written_pos r s.1)
integer_fits k r (below_zero {n = n} some few) =
    let s = near_zero k (n - 1) (omega (arith, some, few)) in
    let back : 2 ^ 64 - (n - 1 + 1) ≡ 2 ^ 64 - n = omega (arith, some) in
    of_value k (negsuc (n - 1)) (2 ^ 64 - n) s.0 (written_neg (n - 1) s.1 ∙ back)

zero_fits : (r : ℕ) → IsInRange 0 0 r → r ≡ 0
zero_fits r (up_to h) = omega (arith, h)
zero_fits r (below_zero some few) = absurd (omega (arith, some, few))

none_fits : (r : ℕ) → IsInRange 0 0 r → eqb r 0 ≡ true
none_fits r h = ap (λ x. eqb x 0) (zero_fits r h)

value_fits : (t : CType) (r : ℕ) → IsInRange (range_of t).0 (range_of t).1 r → is_value (shape_of t) r ≡ true
value_fits Void r h = none_fits r h
value_fits (Integer k) r h = integer_fits k r h
value_fits (PointerTo t) r (up_to h) = lt-ltb r (2 ^ 64) (omega (arith, h))
value_fits (PointerTo t) r (below_zero some few) = absurd (omega (arith, some, few))
value_fits (ArrayOf n t) r h = none_fits r h
value_fits (StructOf n) r h = none_fits r h
value_fits (UndefinedStruct tag) r h = none_fits r h
value_fits (FunctionOf u ps) r h = none_fits r h

zero_of_kind : (k : IntKind) → eqb (converted k 0) 0 ≡ true
zero_of_kind k = of_value k (pos 0) 0 (small k 0 (omega arith)).0 refl

-- the result of a function of this type
pub result_fits : (t : CType) (r : ℕ) → IsInRange (result_range t).0 (result_range t).1 r → is_value (shape_of (result_of t)) r ≡ true
result_fits (FunctionOf u ps) r h = value_fits u r h
result_fits Void r h = none_fits r h
result_fits (Integer k) r h = ap (λ x. is_value (shape_of (Integer k)) x) (zero_fits r h) ∙ zero_of_kind k
result_fits (PointerTo t) r h = ap (λ x. is_value (shape_of (PointerTo t)) x) (zero_fits r h)
result_fits (ArrayOf n t) r h = none_fits r h
result_fits (StructOf n) r h = none_fits r h
result_fits (UndefinedStruct tag) r h = none_fits r h
