-- An integer constant expression makes no marks and gives its value.
use Rattle.std.proofs.Common.{◌≡◌, ℕ, zero, suc, ◌<◌, ◌≤◌, ℤ, pos, negsuc, ◌-ℤ◌, Bool, true, false, cond, Option, Some, None, Result, Ok, Err, refl, sym, ap, ◌∙◌, subst, arith}
use Rattle.std.specs.Prelude.{int_le, int_lt, not, option_map}
use Rattle.std.proofs.lemmas.Bool.{and_parts, leb-false, leb-true, or_parts}
use Rattle.std.proofs.lemmas.Int.{ints}
use Rattle.r2_num.specs.declared.kinds.IntKind.{IntKind}
use Rattle.r2_num.specs.declared.kinds.IntKind.TheVariants.{I8, U8, I16, U16, I32, U32, I64, U64}
use Rattle.r2_num.specs.declared.operations.Op.{Op}
use Rattle.r2_num.specs.declared.operations.Op.TheVariants.{Add, Sub, Mul, Div, Rem, Shl, Shr, And, Or, Xor, Eq, Ne, Lt, Le, Gt, Ge}
use Rattle.r2_num.specs.declared.operations.Arith.{Arith}
use Rattle.r2_num.specs.declared.operations.Arith.TheVariants.{Shift}
use Rattle.r2_num.specs.Kinds.{width_of, IsValue}
use Rattle.r2_num.specs.Conversions.{wrapped}
use Rattle.r2_num.specs.Operations.{binary_of, equal, exact, fault_of, shift_fault, truth as truth_value, unless}
use Rattle.c_code.specs.Values.{arith_of, at_zero, read, right_kind, written, written_result}
use Rattle.c_types_model.specs.Types.{CType, Integer}
use Rattle.c_types_rules.specs.Constants.{constant_value, converted as constant_converted, integer_constant, is_of_constants, is_true, is_zero, result, ◌>>=◌}
use Rattle.c_types_rules.specs.TypedTree.{Value, Constant, FunctionAddress, ReadOf, AddressOf, Convert, Negate, Complement, Arithmetic, PointerSum, PointerDifference, PointerComparison, Not, Both, Either, Choice, Sequence, Assigned, Changed, Moved, Stepped, CallOf, result_kind, value_type}
use Rattle.c_semantics.specs.Reading.{Marks, or_fault}
use Rattle.c_semantics.specs.Values.{Here, converted_to, truth, value}
use Rattle.lockset_check_threads.specs.Typed.{IsOfKinds, IsRightOf}
use Rattle.lockset_check_threads.proofs.Patterns.{read_value, read_written, taken_away, wrapped_is_value}

-- no marks are made, and this is the value
pub record IsSilent (v : Value) (n : ℤ) : Type 0 where
  pub kind : IntKind
  pub type : value_type v ≡ Integer kind
  pub fits : IsValue kind n
  pub gives : (h : Here) (go : ℕ → Marks) → value v h go ≡ go (written n)

some_same : {A : Type 0} (a b : A) → Some a ≡ Some b → a ≡ b
some_same a b e = cc

integer_same : (j k : IntKind) → Integer j ≡ Integer k → j ≡ k
integer_same j k e = cc

-- where a value comes before
bound : (o : Option ℤ) (f : ℤ → Option ℤ) (n : ℤ) → (o >>= f) ≡ Some n → (m : ℤ) × (o ≡ Some m) × (f m ≡ Some n)
bound (Some m) f n e = (m, refl, e)
bound None f n e = absurd cc

-- it is a value of its type
of_kind : (v : Value) (n : ℤ) (k : IntKind) → IsSilent v n → value_type v ≡ Integer k → IsValue k n
of_kind v n k s e = subst (λ j. IsValue j n) (integer_same s.kind k (sym s.type ∙ e)) s.fits

-- ---- tests for 0

zero_is : (n : ℤ) → is_zero n ≡ true → n ≡ pos 0
zero_is (pos zero) e = refl
zero_is (pos (suc n)) e = let most : suc n ≤ 0 = leb-true (suc n) 0 (and_parts (int_le (pos (suc n)) (pos 0)) (int_le (pos 0) (pos (suc n))) e).0 in absurd (omega arith)
zero_is (negsuc n) e = let below : int_le (pos 0) (negsuc n) ≡ true = (and_parts (int_le (negsuc n) (pos 0)) (int_le (pos 0) (negsuc n)) e).1 in absurd cc

zero_of : (k : IntKind) → read k 0 ≡ pos 0
zero_of I8 = refl
zero_of U8 = refl
zero_of I16 = refl
zero_of U16 = refl
zero_of I32 = refl
zero_of U32 = refl
zero_of I64 = refl
zero_of U64 = refl

-- a pattern is 0 where the value is
tested : {A : Type 0} (k : IntKind) (n : ℤ) (a b : A) → IsValue k n → at_zero (written n) a b ≡ cond (is_zero n) a b
tested k n a b h = by (is_zero n) refl
  where
    not_zero : (m : ℕ) → written n ≡ m → is_zero n ≡ false → at_zero m a b ≡ b
    not_zero zero e z =
        let is : n ≡ pos 0 = sym (read_value k n h) ∙ ap (read k) e ∙ zero_of k in
        let no : is_zero n ≡ true = ap is_zero is in
        absurd cc
    not_zero (suc m) e z = refl

    by : (t : Bool) → is_zero n ≡ t → at_zero (written n) a b ≡ cond t a b
    by true z = ap (λ x. at_zero (written x) a b) (zero_is n z)
    by false z = not_zero (written n) refl z

-- ---- operators

truth_kept : (k : IntKind) (b : Bool) → wrapped k (truth_value b) ≡ truth_value b
truth_kept I8 true = refl
truth_kept I8 false = refl
truth_kept U8 true = refl
truth_kept U8 false = refl
truth_kept I16 true = refl
truth_kept I16 false = refl
truth_kept U16 true = refl
truth_kept U16 false = refl
truth_kept I32 true = refl
truth_kept I32 false = refl
truth_kept U32 true = refl
truth_kept U32 false = refl
truth_kept I64 true = refl
truth_kept I64 false = refl
truth_kept U64 true = refl
truth_kept U64 false = refl

truth_is_int : (b : Bool) → IsValue I32 (truth_value b)
truth_is_int true = (omega (arith, ints), omega (arith, ints))
truth_is_int false = (omega (arith, ints), omega (arith, ints))

unless_done : (o : Option Arith) (v n : ℤ) → unless o v ≡ Ok n → v ≡ n
unless_done None v n e = cc
unless_done (Some why) v n e = absurd cc

result_done : (x : Result ℤ Arith) (n : ℤ) → result x ≡ Some n → x ≡ Ok n
result_done (Ok m) n e = ap Ok (some_same m n e)
result_done (Err why) n e = absurd cc

compared : (k : IntKind) (b : Bool) (n : ℤ) → wrapped k (truth_value b) ≡ n → IsValue I32 n
compared k b n e = subst (IsValue I32) (sym (truth_kept k b) ∙ e) (truth_is_int b)

result_fits : (op : Op) (k : IntKind) (a b n : ℤ) → binary_of op k a b ≡ Ok n → IsValue (result_kind op k) n
result_fits Add k a b n e = subst (IsValue k) (unless_done None (wrapped k (exact Add k a b)) n e) (wrapped_is_value k (exact Add k a b))
result_fits Sub k a b n e = subst (IsValue k) (unless_done None (wrapped k (exact Sub k a b)) n e) (wrapped_is_value k (exact Sub k a b))
result_fits Mul k a b n e = subst (IsValue k) (unless_done None (wrapped k (exact Mul k a b)) n e) (wrapped_is_value k (exact Mul k a b))
result_fits Div k a b n e = subst (IsValue k) (unless_done (fault_of Div k a b) (wrapped k (exact Div k a b)) n e) (wrapped_is_value k (exact Div k a b))
result_fits Rem k a b n e = subst (IsValue k) (unless_done (fault_of Rem k a b) (wrapped k (exact Rem k a b)) n e) (wrapped_is_value k (exact Rem k a b))
result_fits Shl k a b n e = subst (IsValue k) (unless_done (fault_of Shl k a b) (wrapped k (exact Shl k a b)) n e) (wrapped_is_value k (exact Shl k a b))
result_fits Shr k a b n e = subst (IsValue k) (unless_done (fault_of Shr k a b) (wrapped k (exact Shr k a b)) n e) (wrapped_is_value k (exact Shr k a b))
result_fits And k a b n e = subst (IsValue k) (unless_done None (wrapped k (exact And k a b)) n e) (wrapped_is_value k (exact And k a b))
result_fits Or k a b n e = subst (IsValue k) (unless_done None (wrapped k (exact Or k a b)) n e) (wrapped_is_value k (exact Or k a b))
result_fits Xor k a b n e = subst (IsValue k) (unless_done None (wrapped k (exact Xor k a b)) n e) (wrapped_is_value k (exact Xor k a b))
result_fits Eq k a b n e = compared k (equal a b) n (unless_done None (wrapped k (exact Eq k a b)) n e)
result_fits Ne k a b n e = compared k (not (equal a b)) n (unless_done None (wrapped k (exact Ne k a b)) n e)
result_fits Lt k a b n e = compared k (int_lt a b) n (unless_done None (wrapped k (exact Lt k a b)) n e)
result_fits Le k a b n e = compared k (int_le a b) n (unless_done None (wrapped k (exact Le k a b)) n e)
result_fits Gt k a b n e = compared k (int_lt b a) n (unless_done None (wrapped k (exact Gt k a b)) n e)
result_fits Ge k a b n e = compared k (int_le b a) n (unless_done None (wrapped k (exact Ge k a b)) n e)

width_within : (k : IntKind) → width_of k ≤ 64
width_within I8 = omega arith
width_within U8 = omega arith
width_within I16 = omega arith
width_within U16 = omega arith
width_within I32 = omega arith
width_within U32 = omega arith
width_within I64 = omega arith
width_within U64 = omega arith

-- the count of a shift that has a result is small
count_is_small : (k : IntKind) (n : ℤ) → shift_fault k n ≡ false → IsValue I64 n
count_is_small k (pos n) e =
    let below : n < width_of k = leb-false (width_of k) n (or_parts (int_lt (pos n) (pos 0)) (int_le (pos (width_of k)) (pos n)) e).1 in
    let most = width_within k in
    (omega (arith, ints), omega (arith, ints))
count_is_small k (negsuc n) e = absurd cc

shifted : (t : Bool) (v n : ℤ) → unless (cond t (Some Shift) None) v ≡ Ok n → t ≡ false
shifted true v n e = absurd cc
shifted false v n e = refl

-- what stands on the right is read as the value that it was written from
right_read : (op : Op) (k : IntKind) (b : Value) (m n z : ℤ) → IsSilent b n → IsRightOf op k (value_type b) → binary_of op k m n ≡ Ok z → read (right_kind op k) (written n) ≡ n
right_read Shl k b m n z s t e = read_value I64 n (count_is_small k n (shifted (shift_fault k n) (wrapped k (exact Shl k m n)) z e))
right_read Shr k b m n z s t e = read_value I64 n (count_is_small k n (shifted (shift_fault k n) (wrapped k (exact Shr k m n)) z e))
right_read Add k b m n z s t e = read_value k n (of_kind b n k s t)
right_read Sub k b m n z s t e = read_value k n (of_kind b n k s t)
right_read Mul k b m n z s t e = read_value k n (of_kind b n k s t)
right_read Div k b m n z s t e = read_value k n (of_kind b n k s t)
right_read Rem k b m n z s t e = read_value k n (of_kind b n k s t)
right_read And k b m n z s t e = read_value k n (of_kind b n k s t)
right_read Or k b m n z s t e = read_value k n (of_kind b n k s t)
right_read Xor k b m n z s t e = read_value k n (of_kind b n k s t)
right_read Eq k b m n z s t e = read_value k n (of_kind b n k s t)
right_read Ne k b m n z s t e = read_value k n (of_kind b n k s t)
right_read Lt k b m n z s t e = read_value k n (of_kind b n k s t)
right_read Le k b m n z s t e = read_value k n (of_kind b n k s t)
right_read Gt k b m n z s t e = read_value k n (of_kind b n k s t)
right_read Ge k b m n z s t e = read_value k n (of_kind b n k s t)

arithmetic : (op : Op) (k : IntKind) (a b : Value) (z : ℤ) → IsRightOf op k (value_type b) → value_type a ≡ Integer k → (m n : ℤ) → IsSilent a m → IsSilent b n → binary_of op k m n ≡ Ok z → IsSilent (Arithmetic op k a b) z
arithmetic op k a b z right left m n sa sb e = record {
  kind = result_kind op k;
  type = refl;
  fits = result_fits op k m n z e;
  gives = λ h go.
      let of_left : read k (written m) ≡ m = read_value k m (of_kind a m k sa left) in
      let of_right : read (right_kind op k) (written n) ≡ n = right_read op k b m n z sb right e in
      let done : arith_of op k (written m) (written n) ≡ Ok (written z) =
      ap (λ x. written_result (binary_of op k x (read (right_kind op k) (written n)))) of_left ∙ ap (λ y. written_result (binary_of op k m y)) of_right ∙ ap written_result e in
      sa.gives h (λ x. value b h (λ y. or_fault h.side (arith_of op k x y) go)) ∙ sb.gives h (λ y. or_fault h.side (arith_of op k (written m) y) go) ∙ ap (λ w. or_fault h.side w go) done;
}

-- ---- values that are tested

written_truth : (t : Bool) → cond t 0 1 ≡ written (truth_value (cond t false true))
written_truth true = refl
written_truth false = refl

written_not : (t : Bool) → cond t 1 0 ≡ written (truth_value t)
written_not true = refl
written_not false = refl

truth_is : (k : IntKind) (n : ℤ) → IsValue k n → truth (written n) ≡ written (is_true n)
truth_is k n h = tested k n 0 1 h ∙ written_truth (is_zero n)

mapped : (o : Option ℤ) (n : ℤ) → option_map is_true o ≡ Some n → (m : ℤ) × (o ≡ Some m) × (is_true m ≡ n)
mapped (Some m) n e = (m, refl, some_same (is_true m) n e)
mapped None n e = absurd cc

converts : (t : CType) (v : Value) (m n : ℤ) → IsSilent v m → constant_converted t m ≡ Some n → IsSilent (Convert t v) n
converts (Integer k) v m n s e =
    let is : wrapped k m ≡ n = some_same (wrapped k m) n e in
    record {
      kind = k;
      type = refl;
      fits = subst (IsValue k) is (wrapped_is_value k m);
      gives = λ h go. s.gives h (λ x. go (converted_to (Integer k) x)) ∙ ap (λ y. go (written y)) (read_written k m ∙ is);
    }
converts t v m n s e = absurd cc

-- what follows a test for 0 of the first part
both_tested : (a b : Value) (m n : ℤ) → IsSilent a m → (t : Bool) → is_zero m ≡ t → cond t (Some (pos 0)) (option_map is_true (constant_value b)) ≡ Some n → ((z : ℤ) → constant_value b ≡ Some z → IsSilent b z) → IsSilent (Both a b) n
both_tested a b m n s true z f next =
    let is : pos 0 ≡ n = some_same (pos 0) n f in
    record {
      kind = I32;
      type = refl;
      fits = subst (IsValue I32) is (truth_is_int false);
      gives = λ g go.
          let k : ℕ → Marks = λ y. go (truth y) in
          s.gives g (λ x. at_zero x (go 0) (value b g k)) ∙ tested s.kind m (go 0) (value b g k) s.fits ∙ ap (λ c. cond c (go 0) (value b g k)) z ∙ ap (λ y. go (written y)) is;
    }
both_tested a b m n s false z f next =
    let q = mapped (constant_value b) n f in
    let t = next q.0 q.1 in
    record {
      kind = I32;
      type = refl;
      fits = subst (IsValue I32) q.2 (truth_is_int (cond (is_zero q.0) false true));
      gives = λ g go.
          let k : ℕ → Marks = λ y. go (truth y) in
          s.gives g (λ x. at_zero x (go 0) (value b g k)) ∙ tested s.kind m (go 0) (value b g k) s.fits ∙ ap (λ c. cond c (go 0) (value b g k)) z ∙ t.gives g k ∙ ap go (truth_is t.kind q.0 t.fits) ∙ ap (λ y. go (written y)) q.2;
    }

either_tested : (a b : Value) (m n : ℤ) → IsSilent a m → (t : Bool) → is_zero m ≡ t → cond t (option_map is_true (constant_value b)) (Some (pos 1)) ≡ Some n → ((z : ℤ) → constant_value b ≡ Some z → IsSilent b z) → IsSilent (Either a b) n
either_tested a b m n s false z f next =
    let is : pos 1 ≡ n = some_same (pos 1) n f in
    record {
      kind = I32;
      type = refl;
      fits = subst (IsValue I32) is (truth_is_int true);
      gives = λ g go.
          let k : ℕ → Marks = λ y. go (truth y) in
          s.gives g (λ x. at_zero x (value b g k) (go 1)) ∙ tested s.kind m (value b g k) (go 1) s.fits ∙ ap (λ c. cond c (value b g k) (go 1)) z ∙ ap (λ y. go (written y)) is;
    }
either_tested a b m n s true z f next =
    let q = mapped (constant_value b) n f in
    let t = next q.0 q.1 in
    record {
      kind = I32;
      type = refl;
      fits = subst (IsValue I32) q.2 (truth_is_int (cond (is_zero q.0) false true));
      gives = λ g go.
          let k : ℕ → Marks = λ y. go (truth y) in
          s.gives g (λ x. at_zero x (value b g k) (go 1)) ∙ tested s.kind m (value b g k) (go 1) s.fits ∙ ap (λ c. cond c (value b g k) (go 1)) z ∙ t.gives g k ∙ ap go (truth_is t.kind q.0 t.fits) ∙ ap (λ y. go (written y)) q.2;
    }

choice_tested : (c a b : Value) (m n : ℤ) → value_type b ≡ value_type a → IsSilent c m → (t : Bool) → is_zero m ≡ t → cond t (constant_value b) (constant_value a) ≡ Some n → (constant_value b ≡ Some n → IsSilent b n) → (constant_value a ≡ Some n → IsSilent a n) → IsSilent (Choice c a b) n
choice_tested c a b m n same s true z f of_b of_a =
    let t = of_b f in
    record {
      kind = t.kind;
      type = sym same ∙ t.type;
      fits = t.fits;
      gives = λ g go. s.gives g (λ x. at_zero x (value b g go) (value a g go)) ∙ tested s.kind m (value b g go) (value a g go) s.fits ∙ ap (λ k. cond k (value b g go) (value a g go)) z ∙ t.gives g go;
    }
choice_tested c a b m n same s false z f of_b of_a =
    let t = of_a f in
    record {
      kind = t.kind;
      type = t.type;
      fits = t.fits;
      gives = λ g go. s.gives g (λ x. at_zero x (value b g go) (value a g go)) ∙ tested s.kind m (value b g go) (value a g go) s.fits ∙ ap (λ k. cond k (value b g go) (value a g go)) z ∙ t.gives g go;
    }

pub silent : (v : Value) (n : ℤ) → IsOfKinds v → constant_value v ≡ Some n → IsSilent v n
silent (Constant k m) n h e =
    let is : m ≡ n = some_same m n e in
    record { kind = k; type = refl; fits = subst (IsValue k) is h; gives = λ p go. ap (λ y. go (written y)) is }
silent (Convert t v) n h e =
    let p = bound (constant_value v) (λ m. constant_converted t m) n e in
    converts t v p.0 n (silent v p.0 h p.1) p.2
silent (Negate k v) n h e =
    let p = bound (constant_value v) (λ m. Some (wrapped k (pos 0 -ℤ m))) n e in
    let s = silent v p.0 h p.1 in
    let is : wrapped k (pos 0 -ℤ p.0) ≡ n = some_same (wrapped k (pos 0 -ℤ p.0)) n p.2 in
    record {
      kind = k;
      type = refl;
      fits = subst (IsValue k) is (wrapped_is_value k (pos 0 -ℤ p.0));
      gives = λ g go. s.gives g (λ x. go (written (wrapped k (pos 0 -ℤ read k x)))) ∙ ap (λ y. go (written (wrapped k (pos 0 -ℤ y)))) (read_written k p.0) ∙ ap (λ y. go (written y)) (taken_away k (pos 0) p.0 ∙ is);
    }
silent (Complement k v) n h e =
    let p = bound (constant_value v) (λ m. Some (wrapped k (negsuc 0 -ℤ m))) n e in
    let s = silent v p.0 h p.1 in
    let is : wrapped k (negsuc 0 -ℤ p.0) ≡ n = some_same (wrapped k (negsuc 0 -ℤ p.0)) n p.2 in
    record {
      kind = k;
      type = refl;
      fits = subst (IsValue k) is (wrapped_is_value k (negsuc 0 -ℤ p.0));
      gives = λ g go. s.gives g (λ x. go (written (wrapped k (negsuc 0 -ℤ read k x)))) ∙ ap (λ y. go (written (wrapped k (negsuc 0 -ℤ y)))) (read_written k p.0) ∙ ap (λ y. go (written y)) (taken_away k (negsuc 0) p.0 ∙ is);
    }
silent (Arithmetic op k a b) n h e =
    let p = bound (constant_value a) (λ x. constant_value b >>= (λ y. result (binary_of op k x y))) n e in
    let q = bound (constant_value b) (λ y. result (binary_of op k p.0 y)) n p.2 in
    arithmetic op k a b n h.3 h.2 p.0 q.0 (silent a p.0 h.0 p.1) (silent b q.0 h.1 q.1) (result_done (binary_of op k p.0 q.0) n q.2)
silent (Not v) n h e =
    let p = bound (constant_value v) (λ m. Some (truth_value (is_zero m))) n e in
    let s = silent v p.0 h p.1 in
    let is : truth_value (is_zero p.0) ≡ n = some_same (truth_value (is_zero p.0)) n p.2 in
    record {
      kind = I32;
      type = refl;
      fits = subst (IsValue I32) is (truth_is_int (is_zero p.0));
      gives = λ g go. s.gives g (λ x. go (at_zero x 1 0)) ∙ ap go (tested s.kind p.0 1 0 s.fits ∙ written_not (is_zero p.0)) ∙ ap (λ y. go (written y)) is;
    }
silent (Both a b) n h e =
    let p = bound (constant_value a) (λ m. cond (is_zero m) (Some (pos 0)) (option_map is_true (constant_value b))) n e in
    both_tested a b p.0 n (silent a p.0 h.0 p.1) (is_zero p.0) refl p.2 (λ z. silent b z h.1)
silent (Either a b) n h e =
    let p = bound (constant_value a) (λ m. cond (is_zero m) (option_map is_true (constant_value b)) (Some (pos 1))) n e in
    either_tested a b p.0 n (silent a p.0 h.0 p.1) (is_zero p.0) refl p.2 (λ z. silent b z h.1)
silent (Choice c a b) n h e =
    let p = bound (constant_value c) (λ m. cond (is_zero m) (constant_value b) (constant_value a)) n e in
    choice_tested c a b p.0 n h.3 (silent c p.0 h.0 p.1) (is_zero p.0) refl p.2 (silent b n h.2) (silent a n h.1)
silent (FunctionAddress from number t) n h e = absurd cc
silent (ReadOf o) n h e = absurd cc
silent (AddressOf o t) n h e = absurd cc
silent (PointerSum w p i size) n h e = absurd cc
silent (PointerDifference a b size) n h e = absurd cc
silent (PointerComparison op a b) n h e = absurd cc
silent (Sequence a b) n h e = absurd cc
silent (Assigned o v) n h e = absurd cc
silent (Changed o op k v) n h e = absurd cc
silent (Moved o w i size) n h e = absurd cc
silent (Stepped o w g size) n h e = absurd cc
silent (CallOf f vs t) n h e = absurd cc

pub constants_are_silent : (v : Value) (n : ℤ) → IsOfKinds v → integer_constant v ≡ Some n → IsSilent v n
constants_are_silent v n h e = by (is_of_constants v) e
  where
    by : (t : Bool) → cond t (constant_value v) None ≡ Some n → IsSilent v n
    by true f = silent v n h f
    by false f = absurd cc
