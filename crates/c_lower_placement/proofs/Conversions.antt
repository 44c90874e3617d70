-- A conversion that has no instruction changes nothing.
use Rattle.std.proofs.Common.{◌≡◌, ℕ, zero, suc, ◌+◌, ◌-◌, ◌*◌, ◌/◌, ◌%◌, ◌^◌, ◌<◌, ◌≤◌, ℤ, pos, negsuc, ◌+ℤ◌, ◌-ℤ◌, ◌≤ℤ◌, T, subst, Bool, true, false, cond, not, eqb, ◌&&◌, Option, Some, None, refl, sym, ap, ◌∙◌, arith, mul-le-mul_left}
use Rattle.std.specs.Prelude.{unsigned_abs, int_le}
use Rattle.std.specs.Int.{int_rem_euclid}
use Rattle.std.proofs.lemmas.Bool.{eqb-true, not-false}
use Rattle.std.proofs.lemmas.Int.{ints, int_rem_euclid_is}
use Rattle.std.proofs.lemmas.Nat.{pow_pos}
use Rattle.std.proofs.Math.Nat.{div-add-mod, mod-lt}
use borrow.Author.Differences.{up, down}
use lib.Signed.{le_z_yes}
use Rattle.r2_num.specs.declared.kinds.IntKind.{IntKind}
use Rattle.r2_num.specs.declared.kinds.IntKind.TheVariants.{I8, U8, I16, U16, I32, U32, I64, U64}
use Rattle.r2_num.specs.declared.operations.Op.{Op}
use Rattle.r2_num.specs.declared.operations.Arith.{Arith}
use Rattle.r2_num.specs.Kinds.{IsValue, greatest, least, width_of}
use Rattle.r2_num.specs.Conversions.{represents_all, wrapped}
use Rattle.r2_num.specs.Operations.{exact, fault_of, unless}
use Rattle.marks.specs.Wants.{Loads}
use Rattle.c_code.specs.Values.{arith_of, at_zero, converted, read, right_kind, written, written_result}
use Rattle.c_types_model.specs.Types.{CType}
use Rattle.c_types_rules.specs.TypedTree.{Value, Constant, ReadOf, Convert, Negate, Complement, Arithmetic, PointerComparison, Not, Both, Either, object_type}
use Rattle.c_semantics.specs.Reading.{Marks, ask, or_fault, with_any}
use Rattle.c_semantics.specs.Context.{kind_of}
use Rattle.c_semantics.specs.Values.{Here, address, fetch, is_read, origin, truth, value, width}
use Rattle.c_lower_placement.specs.Conversions.{converts, is_kept, is_within, may_change, reconverts, sure_kind}

-- what is left of z differs from it by a multiple of n
pub record Left (n : ℕ) (z : ℤ) : Type 0 where
  pub rest : ℕ
  pub more : ℕ
  pub fewer : ℕ
  pub is : int_rem_euclid z (pos n) ≡ pos rest
  pub apart : pos rest +ℤ pos (more * n) ≡ z +ℤ pos (fewer * n)
  pub small : rest < n

left : (n : ℕ) (z : ℤ) → 0 < n → Left n z
left n z some =
    let far : down z * 1 ≤ down z * n = mul-le-mul_left (down z) some in
    let m = up z + down z * n - down z in
    let whole : z +ℤ pos (down z * n) ≡ pos m = omega (arith, ints) in
    let split : n * (m / n) + m % n ≡ m = div-add-mod m n in
    record {
      rest = m % n;
      more = m / n;
      fewer = down z;
      is = int_rem_euclid_is z (pos n) n (down z) m some refl whole;
      apart = omega (arith, ints);
      small = mod-lt m some;
    }

-- what is wrapped to a kind is a value of the kind
in_range : (k : IntKind) (z : ℤ) → IsValue k (wrapped k z)
in_range k z =
    let q = left (2 ^ width_of k) (z -ℤ least k) (pow_pos (width_of k)) in
    by k (wrapped k z) q.rest (ap (λ r. least k +ℤ r) q.is) q.small
  where
    by : (k : IntKind) (w : ℤ) (rest : ℕ) → w ≡ least k +ℤ pos rest → rest < 2 ^ width_of k → IsValue k w
    by I8 w rest is small = (omega (arith, ints, is), omega (arith, ints, is))
    by U8 w rest is small = (omega (arith, ints, is), omega (arith, ints, is))
    by I16 w rest is small = (omega (arith, ints, is), omega (arith, ints, is))
    by U16 w rest is small = (omega (arith, ints, is), omega (arith, ints, is))
    by I32 w rest is small = (omega (arith, ints, is), omega (arith, ints, is))
    by U32 w rest is small = (omega (arith, ints, is), omega (arith, ints, is))
    by I64 w rest is small = (omega (arith, ints, is), omega (arith, ints, is))
    by U64 w rest is small = (omega (arith, ints, is), omega (arith, ints, is))

-- a pattern differs from its number by a multiple of 2 ^ 64
pub record Pattern (z : ℤ) : Type 0 where
  pub more : ℕ
  pub fewer : ℕ
  pub apart : pos (written z) +ℤ pos (more * 2 ^ 64) ≡ z +ℤ pos (fewer * 2 ^ 64)
  pub small : written z < 2 ^ 64

pattern : (z : ℤ) → Pattern z
pattern z =
    let p = left (2 ^ 64) z (pow_pos 64) in
    let is : written z ≡ p.rest = ap unsigned_abs p.is in
    record { more = p.more; fewer = p.fewer; apart = ap (λ n. pos n +ℤ pos (p.more * 2 ^ 64)) is ∙ p.apart; small = omega (arith, p.small) }

-- a value of a kind is read of its pattern
read_back : (k : IntKind) (z : ℤ) → IsValue k z → wrapped k (pos (written z)) ≡ z
read_back k z h = let p = pattern z in by k z (written z) p.more p.fewer p.apart h.0 h.1
  where
    by : (k : IntKind) (z : ℤ) (n more fewer : ℕ) → pos n +ℤ pos (more * 2 ^ 64) ≡ z +ℤ pos (fewer * 2 ^ 64) → least k ≤ℤ z → z ≤ℤ greatest k → wrapped k (pos n) ≡ z
    by I8 z n more fewer apart low high = omega (arith, ints, apart, low, high)
    by U8 z n more fewer apart low high = omega (arith, ints, apart, low, high)
    by I16 z n more fewer apart low high = omega (arith, ints, apart, low, high)
    by U16 z n more fewer apart low high = omega (arith, ints, apart, low, high)
    by I32 z n more fewer apart low high = omega (arith, ints, apart, low, high)
    by U32 z n more fewer apart low high = omega (arith, ints, apart, low, high)
    by I64 z n more fewer apart low high = omega (arith, ints, apart, low, high)
    by U64 z n more fewer apart low high = omega (arith, ints, apart, low, high)

-- a kind of 64 bits has all bits of a pattern
all_bits_signed : (n : ℕ) → n < 2 ^ 64 → converted I64 n ≡ n
all_bits_signed n small = let p = pattern (wrapped I64 (pos n)) in omega (arith, ints, p.apart, p.small)

all_bits : (n : ℕ) → n < 2 ^ 64 → converted U64 n ≡ n
all_bits n small = let p = pattern (wrapped U64 (pos n)) in omega (arith, ints, p.apart, p.small)

both : (a b : Bool) → (a && b) ≡ true → (a ≡ true) × (b ≡ true)
both true b e = (refl, e)
both false b e = absurd cc

in_order : (a b : ℤ) → int_le a b ≡ true → a ≤ℤ b
in_order a b e = le_z_yes (subst T (sym e) tt)

-- a value of a kind is one of each kind that represents all of them
wider : (a b : IntKind) (z : ℤ) → represents_all b a ≡ true → IsValue a z → IsValue b z
wider a b z e h =
    let orders = both (int_le (least b) (least a)) (int_le (greatest a) (greatest b)) e in
    let low : least b ≤ℤ least a = in_order (least b) (least a) orders.0 in
    let high : greatest a ≤ℤ greatest b = in_order (greatest a) (greatest b) orders.1 in
    (omega (arith, ints, low, h.0), omega (arith, ints, high, h.1))

represented : (a b : IntKind) (z : ℤ) → represents_all b a ≡ true → converted b (written (wrapped a z)) ≡ written (wrapped a z)
represented a b z e = ap written (read_back b (wrapped a z) (wider a b (wrapped a z) e (in_range a z)))

-- what was converted to a kind within another stays as it is
stays : (a b : IntKind) (z : ℤ) → is_within a b ≡ true → converted b (written (wrapped a z)) ≡ written (wrapped a z)
stays a I8 z e = represented a I8 z e
stays a U8 z e = represented a U8 z e
stays a I16 z e = represented a I16 z e
stays a U16 z e = represented a U16 z e
stays a I32 z e = represented a I32 z e
stays a U32 z e = represented a U32 z e
stays a I64 z e = all_bits_signed (written (wrapped a z)) (pattern (wrapped a z)).small
stays a U64 z e = all_bits (written (wrapped a z)) (pattern (wrapped a z)).small

-- ---- what follows a value whose kind is sure

-- what follows is the same for all values of the kind, or for all where no kind is sure
abbrev SameOn : Option IntKind → (go other : ℕ → Marks) → Type 0
SameOn (Some k) go other = (z : ℤ) → go (written (wrapped k z)) ≡ other (written (wrapped k z))
SameOn None go other = (n : ℕ) → go n ≡ other n

module _ (h : Here) (go other : ℕ → Marks) where
  load_same : (b : Bool) (o : Option ℕ) (t : CType) → SameOn (cond b (Some (kind_of t)) None) go other → (a : ℕ) → cond b (fetch h o t go a) (go a) ≡ cond b (fetch h o t other a) (other a)
  load_same true o t same a = λ i. ask h.side (Loads o a (width t)) (with_any (λ n. same (pos n) i))
  load_same false o t same a = same a

  converted_same : (b : Bool) (k : IntKind) → SameOn (cond b (Some k) None) go other → (n : ℕ) → go (cond b (converted k n) n) ≡ other (cond b (converted k n) n)
  converted_same true k same n = same (pos n)
  converted_same false k same n = same n

  result_same : (why : Option Arith) (k : IntKind) (z : ℤ) → SameOn (Some k) go other → or_fault h.side (written_result (unless why (wrapped k z))) go ≡ or_fault h.side (written_result (unless why (wrapped k z))) other
  result_same None k z same = same z
  result_same (Some fault) k z same = refl

  arith_same : (op : Op) (k : IntKind) (x y : ℕ) → SameOn (Some k) go other → or_fault h.side (arith_of op k x y) go ≡ or_fault h.side (arith_of op k x y) other
  arith_same op k x y same =
      let a = read k x in
      let b = read (right_kind op k) y in
      result_same (fault_of op k a b) k (exact op k a b) same

  not_same : SameOn (Some I32) go other → (n : ℕ) → go (at_zero n 1 0) ≡ other (at_zero n 1 0)
  not_same same zero = same (pos 1)
  not_same same (suc n) = same (pos 0)

  truth_same : SameOn (Some I32) go other → (n : ℕ) → go (truth n) ≡ other (truth n)
  truth_same same zero = same (pos 0)
  truth_same same (suc n) = same (pos 1)

  value_same : (v : Value) → SameOn (sure_kind v) go other → value v h go ≡ value v h other
  value_same (ReadOf o) same = λ i. address o h (λ a. load_same (is_read (object_type o)) (origin o) (object_type o) same a i)
  value_same (Convert t v) same = λ i. value v h (λ n. converted_same (is_read t) (kind_of t) same n i)
  value_same (Negate k v) same = λ i. value v h (λ n. same (pos 0 -ℤ read k n) i)
  value_same (Complement k v) same = λ i. value v h (λ n. same (negsuc 0 -ℤ read k n) i)
  value_same (Arithmetic op k a b) same = λ i. value a h (λ x. value b h (λ y. arith_same op k x y same i))
  value_same (PointerComparison op a b) same = λ i. value a h (λ x. value b h (λ y. arith_same op U64 x y same i))
  value_same (Not v) same = λ i. value v h (λ n. not_same same n i)
  value_same (Both a b) same = λ i. value a h (λ x. at_zero x (same (pos 0) i) (value b h (λ y. truth_same same y i)))
  value_same (Either a b) same = λ i. value a h (λ x. at_zero x (value b h (λ y. truth_same same y i)) (same (pos 1) i))
  value_same v same = λ i. value v h (λ n. same n i)

-- what was converted to a kind, where it is then converted to another
converted_on : (from to : IntKind) (z : ℤ) → converted to (written (wrapped from z)) ≡ cond (reconverts from to) (converted to (written (wrapped from z))) (written (wrapped from z))
converted_on from to z = by (is_within from to) refl
  where
    by : (b : Bool) → is_within from to ≡ b → converted to (written (wrapped from z)) ≡ cond (not b) (converted to (written (wrapped from z))) (written (wrapped from z))
    by true e = stays from to z e
    by false e = refl

-- what a changed object gives is what the instructions give
pub change_is : (h : Here) (go : ℕ → Marks) (op : Op) (k own : IntKind) (v : Value) (z : ℤ) →
    value v h (λ y. or_fault h.side (arith_of op k (converted k (written (wrapped own z))) y) (λ r. go (converted own r)))
    ≡ value v h (λ y. or_fault h.side (arith_of op k (cond (reconverts own k) (converted k (written (wrapped own z))) (written (wrapped own z))) y) (λ r. go (cond (reconverts k own) (converted own r) r)))
change_is h go op k own v z =
    let old = cond (reconverts own k) (converted k (written (wrapped own z))) (written (wrapped own z)) in
    let before : ℕ → Marks = λ r. go (converted own r) in
    let after : ℕ → Marks = λ r. go (cond (reconverts k own) (converted own r) r) in
    let same : (w : ℤ) → before (written (wrapped k w)) ≡ after (written (wrapped k w)) = λ w. ap go (converted_on k own w) in
    ap (λ x. value v h (λ y. or_fault h.side (arith_of op k x y) before)) (converted_on own k z) ∙ (λ i. value v h (λ y. arith_same h before after op k old y same i))

module _ (h : Here) (go : ℕ → Marks) where
  kept_same : (o : Option IntKind) (k : IntKind) → is_kept o k ≡ true → SameOn o (λ n. go (converted k n)) go
  kept_same (Some from) k e = λ z. ap go (stays from k z e)
  kept_same None k e = absurd cc

  unchanged : (k : IntKind) (v : Value) → may_change k v ≡ false → value v h (λ n. go (converted k n)) ≡ value v h go
  unchanged k (Constant j n) e = ap go (eqb-true (converted k (written n)) (written n) (not-false (eqb (converted k (written n)) (written n)) e))
  unchanged k v e = value_same h (λ n. go (converted k n)) go v (kept_same (sure_kind v) k (not-false (is_kept (sure_kind v) k) e))

  -- a conversion gives what its instructions give
  pub conversion_is : (t : CType) (v : Value) → value (Convert t v) h go ≡ value v h (λ n. go (cond (converts t v) (converted (kind_of t) n) n))
  conversion_is t v = by (is_read t) (may_change (kind_of t) v) refl
    where
      by : (b c : Bool) → may_change (kind_of t) v ≡ c → value v h (λ n. go (cond b (converted (kind_of t) n) n)) ≡ value v h (λ n. go (cond (b && c) (converted (kind_of t) n) n))
      by false c e = refl
      by true true e = refl
      by true false e = unchanged (kind_of t) v e
