-- A value of a kind is read from its pattern.
use Rattle.std.proofs.Common.{◌≡◌, ℕ, ◌+◌, ◌-◌, ◌*◌, ◌/◌, ◌%◌, ◌^◌, ◌<◌, ◌≤◌, ℤ, pos, negsuc, ◌+ℤ◌, ◌-ℤ◌, ◌≤ℤ◌, refl, sym, ap, ◌∙◌, subst, arith, mul-le-mul_left}
use Rattle.std.specs.Prelude.{unsigned_abs}
use Rattle.std.specs.Int.{int_rem_euclid}
use Rattle.std.proofs.lemmas.Int.{ints, int_rem_euclid_is}
use Rattle.std.proofs.lemmas.Nat.{pow_pos}
use Rattle.std.proofs.Math.Nat.{div-add-mod, mul_assoc, mod-lt, mod-eq_of_lt}
use borrow.Author.Differences.{up, down}
use Rattle.r2_num.specs.declared.kinds.IntKind.{IntKind}
use Rattle.r2_num.specs.declared.kinds.IntKind.TheVariants.{I8, U8, I16, U16, I32, U32, I64, U64}
use Rattle.r2_num.specs.Kinds.{width_of, least, IsValue}
use Rattle.r2_num.specs.Conversions.{wrapped}
use Rattle.c_code.specs.Values.{read, written}

-- what differs by multiples of n leaves the same
rem_same : (n : ℕ) (a b : ℤ) (i j : ℕ) → 0 < n → a +ℤ pos (i * n) ≡ b +ℤ pos (j * n) → int_rem_euclid a (pos n) ≡ int_rem_euclid b (pos n)
rem_same n a b i j some e =
    let t = down a + down b in
    let far : t * 1 ≤ t * n = mul-le-mul_left t some in
    let m = up a + (i + t) * n - down a in
    let of_a : a +ℤ pos ((i + t) * n) ≡ pos m = omega (arith, ints) in
    let of_b : b +ℤ pos ((j + t) * n) ≡ pos m = omega (arith, ints) in
    int_rem_euclid_is a (pos n) n (i + t) m some refl of_a ∙ sym (int_rem_euclid_is b (pos n) n (j + t) m some refl of_b)

wrapped_same : (k : IntKind) (a b : ℤ) (i j : ℕ) → a +ℤ pos (i * 2 ^ width_of k) ≡ b +ℤ pos (j * 2 ^ width_of k) → wrapped k a ≡ wrapped k b
wrapped_same k a b i j e = ap (λ (r : ℤ). least k +ℤ r) (rem_same (2 ^ width_of k) (a -ℤ least k) (b -ℤ least k) i j (pow_pos (width_of k)) (omega (arith, ints)))

-- how far a value of a kind lies above the least
above : (k : IntKind) (v : ℤ) → IsValue k v → (pos 0 ≤ℤ (v -ℤ least k)) × (((v -ℤ least k) +ℤ pos 1) ≤ℤ pos (2 ^ width_of k))
above I8 v h = (omega (arith, ints), omega (arith, ints))
above U8 v h = (omega (arith, ints), omega (arith, ints))
above I16 v h = (omega (arith, ints), omega (arith, ints))
above U16 v h = (omega (arith, ints), omega (arith, ints))
above I32 v h = (omega (arith, ints), omega (arith, ints))
above U32 v h = (omega (arith, ints), omega (arith, ints))
above I64 v h = (omega (arith, ints), omega (arith, ints))
above U64 v h = (omega (arith, ints), omega (arith, ints))

-- a number that is left as it is
small_left : (n : ℕ) (z : ℤ) → 0 < n → pos 0 ≤ℤ z → (z +ℤ pos 1) ≤ℤ pos n → int_rem_euclid z (pos n) ≡ z
small_left n (pos a) some low high = let lt : a < n = omega (arith, ints) in ap pos (mod-eq_of_lt lt)
small_left n (negsuc a) some low high = absurd (omega (arith, ints))

wrapped_value : (k : IntKind) (v : ℤ) → IsValue k v → wrapped k v ≡ v
wrapped_value k v h =
    let far = above k v h in
    let same : int_rem_euclid (v -ℤ least k) (pos (2 ^ width_of k)) ≡ v -ℤ least k = small_left (2 ^ width_of k) (v -ℤ least k) (pow_pos (width_of k)) far.0 far.1 in
    ap (λ (r : ℤ). least k +ℤ r) same ∙ omega (arith, ints)

-- what is left of a number
left : (n : ℕ) (z : ℤ) → 0 < n → (m : ℕ) × (int_rem_euclid z (pos n) ≡ pos m) × (m < n)
left n z some =
    let far : down z * 1 ≤ down z * n = mul-le-mul_left (down z) some in
    let m = up z + down z * n - down z in
    let whole : z +ℤ pos (down z * n) ≡ pos m = omega (arith, ints) in
    (m % n, int_rem_euclid_is z (pos n) n (down z) m some refl whole, mod-lt m some)

-- what lies so far above the least is a value of the kind
within : (k : IntKind) (m : ℕ) → m < 2 ^ width_of k → IsValue k (least k +ℤ pos m)
within I8 m h = (omega (arith, ints), omega (arith, ints))
within U8 m h = (omega (arith, ints), omega (arith, ints))
within I16 m h = (omega (arith, ints), omega (arith, ints))
within U16 m h = (omega (arith, ints), omega (arith, ints))
within I32 m h = (omega (arith, ints), omega (arith, ints))
within U32 m h = (omega (arith, ints), omega (arith, ints))
within I64 m h = (omega (arith, ints), omega (arith, ints))
within U64 m h = (omega (arith, ints), omega (arith, ints))

-- what is wrapped to a kind is a value of it
pub wrapped_is_value : (k : IntKind) (z : ℤ) → IsValue k (wrapped k z)
wrapped_is_value k z =
    let l = left (2 ^ width_of k) (z -ℤ least k) (pow_pos (width_of k)) in
    subst (IsValue k) (sym (ap (λ (r : ℤ). least k +ℤ r) l.1)) (within k l.0 l.2)

-- 2 ^ 64 is a multiple of 2 to the width
times : (k : IntKind) → (t : ℕ) × (2 ^ 64 ≡ t * 2 ^ width_of k)
times I8 = (2 ^ 56, refl)
times U8 = (2 ^ 56, refl)
times I16 = (2 ^ 48, refl)
times U16 = (2 ^ 48, refl)
times I32 = (2 ^ 32, refl)
times U32 = (2 ^ 32, refl)
times I64 = (1, refl)
times U64 = (1, refl)

pub read_written : (k : IntKind) (z : ℤ) → read k (written z) ≡ wrapped k z
read_written k z =
    let n = 2 ^ 64 in
    let t = times k in
    let m = up z + down z * n - down z in
    let far : down z * 1 ≤ down z * n = mul-le-mul_left (down z) (pow_pos 64) in
    let whole : z +ℤ pos (down z * n) ≡ pos m = omega (arith, ints) in
    let is : int_rem_euclid z (pos n) ≡ pos (m % n) = int_rem_euclid_is z (pos n) n (down z) m (pow_pos 64) refl whole in
    let split : n * (m / n) + m % n ≡ m = div-add-mod m n in
    let more : (m / n) * n ≡ (m / n) * t.0 * 2 ^ width_of k = ap (λ x. (m / n) * x) t.1 ∙ sym (mul_assoc (m / n) t.0 (2 ^ width_of k)) in
    let less : down z * n ≡ down z * t.0 * 2 ^ width_of k = ap (λ x. down z * x) t.1 ∙ sym (mul_assoc (down z) t.0 (2 ^ width_of k)) in
    ap (λ x. read k (unsigned_abs x)) is ∙ wrapped_same k (pos (m % n)) z ((m / n) * t.0) (down z * t.0) (omega (arith, ints, more, less))

pub read_value : (k : IntKind) (v : ℤ) → IsValue k v → read k (written v) ≡ v
read_value k v h = read_written k v ∙ wrapped_value k v h

-- values of a kind have patterns of their own
pub written_apart : (k : IntKind) (a b : ℤ) → IsValue k a → IsValue k b → written a ≡ written b → a ≡ b
written_apart k a b h g e = sym (read_value k a h) ∙ ap (read k) e ∙ read_value k b g

-- a difference wraps to the same whether what is taken away was wrapped before
pub taken_away : (k : IntKind) (a z : ℤ) → wrapped k (a -ℤ wrapped k z) ≡ wrapped k (a -ℤ z)
taken_away k a z =
    let n = 2 ^ width_of k in
    let y = z -ℤ least k in
    let m = up y + down y * n - down y in
    let far : down y * 1 ≤ down y * n = mul-le-mul_left (down y) (pow_pos (width_of k)) in
    let whole : y +ℤ pos (down y * n) ≡ pos m = omega (arith, ints) in
    let rest : int_rem_euclid y (pos n) ≡ pos (m % n) = int_rem_euclid_is y (pos n) n (down y) m (pow_pos (width_of k)) refl whole in
    let split : n * (m / n) + m % n ≡ m = div-add-mod m n in
    let is : wrapped k z ≡ least k +ℤ pos (m % n) = ap (λ (r : ℤ). least k +ℤ r) rest in
    wrapped_same k (a -ℤ wrapped k z) (a -ℤ z) (down y) (m / n) (omega (arith, ints, is))
