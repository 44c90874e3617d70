-- What the definitions say where their tests are known.
use Rattle.std.proofs.Common.{IsTrue, ◌↔◌, is_some, ◌≡◌, ℕ, ◌⊎◌, inl, inr, Bool, true, false, ◌&&◌, List, Option, Some, None, Result, Err, refl, sym, ap, ◌∙◌, subst}
use Rattle.r2_num.specs.declared.kinds.IntKind.{IntKind}
use Rattle.r2_num.specs.declared.kinds.IntKind.TheVariants.{I64}
use Rattle.r2_num.specs.declared.operations.Op.{Op}
use Rattle.r2_num.specs.declared.operations.Op.TheVariants.{Add, Sub, Shl, Shr}
use Rattle.r2_num.specs.Conversions.{common_of, promoted}
use Rattle.c_types_model.specs.Types.{CType, Integer, PointerTo}
use Rattle.c_types_model.specs.declared.extent.Extent.{Extent}
use Rattle.std.specs.Option.{option_map}
use Rattle.c_types_model.specs.Layouts.{capped, capped_extent, extent_of}
use Rattle.c_types_rules.proofs.SameTypes.{types_compared}
use Rattle.c_types_rules.specs.Checked.{Checked, Fine, Broken, keep, need, ◌>>=◌, ◌>>◌}
use Rattle.c_types_rules.specs.TypeTests.{same_type, is_integer, is_complete, kind_in}
use Rattle.c_types_rules.specs.Constants.{is_null}
use Rattle.c_types_rules.specs.Operators.{are_comparable, arithmetic, comparison, comparison_of, difference, difference_of, pointer_difference, pointer_sum, promoted_operand, shift, size_in, sum, sum_of, to_kind}
use Rattle.c_types_rules.specs.TypedTree.{Value, Sum, Arithmetic, PointerSum, PointerPlus, PlusPointer, PointerMinus, PointerDifference, PointerComparison, Convert, value_type}
use Rattle.c_types_nodes.specs.Parts.{IsRightType}
use Rattle.c_types_operators.specs.declared.error.TypeError.{TypeError}
use Rattle.c_types_operators.specs.declared.error.TypeError.TheVariants.{Rule}
use Rattle.c_types_operators.specs.Answers.{Agrees, IsAt, IsSizeOf, is_pointer}
use Rattle.c_types_nodes.specs.declared.ids.NodeId.{NodeId}
use Rattle.c_types_nodes.specs.Tables.{Table}

-- an answer that agrees with a check agrees with each that is the same
pub passed : (t : Table) (c d : Checked Value) (r : Result NodeId TypeError) → c ≡ d → Agrees (IsAt t) d r → Agrees (IsAt t) c r
passed t c d r e h = let same : Checked Value → Type 0 = λ x. Agrees (IsAt t) x r in subst same (sym e) h

pub rule : (t : Table) (c : Checked Value) (from number : ℕ) → c ≡ Broken from number → Agrees (IsAt t) c (Err (Rule from number))
rule t c from number e = passed t c (Broken from number) (Err (Rule from number)) e (refl, refl)

-- what is left where it isn't there
pub missing : {A : Type 0} (o : Option A) → ((x : A) → o ≡ Some x → ⊥) → o ≡ None
missing None n = refl
missing (Some x) n = absurd (n x refl)

pub size_missing : (structs : List Extent) (c : CType) (o : Option ℕ) → IsSizeOf structs c o → ((x : ℕ) → o ≡ Some x → ⊥) → is_complete structs c ≡ false
size_missing structs c None h n = h
size_missing structs c (Some x) h n = absurd (n x refl)

-- ---- two kinds

kinds : (from : ℕ) → (IntKind → IntKind → Checked Value) → Option IntKind → Option IntKind → Checked Value
kinds from f o p = need from 5 o >>= (λ j. need from 5 p >>= (λ k. f j k))

pub arithmetic_left : (from : ℕ) (op : Op) (a b : Value) → kind_in (value_type a) ≡ None → arithmetic from op a b ≡ Broken from 5
unfolding kinds
arithmetic_left from op a b h = ap (λ o. kinds from (λ j k. Fine (Arithmetic op (common_of j k) (to_kind (common_of j k) a) (to_kind (common_of j k) b))) o (kind_in (value_type b))) h

pub arithmetic_right : (from : ℕ) (op : Op) (a b : Value) (j : IntKind) → kind_in (value_type a) ≡ Some j → kind_in (value_type b) ≡ None → arithmetic from op a b ≡ Broken from 5
unfolding kinds
arithmetic_right from op a b j h i =
    ap (λ o. kinds from (λ j k. Fine (Arithmetic op (common_of j k) (to_kind (common_of j k) a) (to_kind (common_of j k) b))) o (kind_in (value_type b))) h
    ∙ ap (λ o. kinds from (λ j k. Fine (Arithmetic op (common_of j k) (to_kind (common_of j k) a) (to_kind (common_of j k) b))) (Some j) o) i

pub arithmetic_both : (from : ℕ) (op : Op) (a b : Value) (j k common : IntKind) → kind_in (value_type a) ≡ Some j → kind_in (value_type b) ≡ Some k → common ≡ common_of j k
    → arithmetic from op a b ≡ Fine (Arithmetic op common (to_kind common a) (to_kind common b))
unfolding kinds
arithmetic_both from op a b j k common h i e =
    ap (λ o. kinds from (λ j k. Fine (Arithmetic op (common_of j k) (to_kind (common_of j k) a) (to_kind (common_of j k) b))) o (kind_in (value_type b))) h
    ∙ (ap (λ o. kinds from (λ j k. Fine (Arithmetic op (common_of j k) (to_kind (common_of j k) a) (to_kind (common_of j k) b))) (Some j) o) i
    ∙ ap (λ l. Fine (Arithmetic op l (to_kind l a) (to_kind l b))) (sym e))

pub shift_left : (from : ℕ) (op : Op) (a b : Value) → kind_in (value_type a) ≡ None → shift from op a b ≡ Broken from 5
unfolding kinds
shift_left from op a b h = ap (λ o. kinds from (λ j k. Fine (Arithmetic op (promoted j) (to_kind (promoted j) a) (to_kind (promoted k) b))) o (kind_in (value_type b))) h

pub shift_right : (from : ℕ) (op : Op) (a b : Value) (j : IntKind) → kind_in (value_type a) ≡ Some j → kind_in (value_type b) ≡ None → shift from op a b ≡ Broken from 5
unfolding kinds
shift_right from op a b j h i =
    ap (λ o. kinds from (λ j k. Fine (Arithmetic op (promoted j) (to_kind (promoted j) a) (to_kind (promoted k) b))) o (kind_in (value_type b))) h
    ∙ ap (λ o. kinds from (λ j k. Fine (Arithmetic op (promoted j) (to_kind (promoted j) a) (to_kind (promoted k) b))) (Some j) o) i

pub shift_both : (from : ℕ) (op : Op) (a b : Value) (j k left right : IntKind) → kind_in (value_type a) ≡ Some j → kind_in (value_type b) ≡ Some k → left ≡ promoted j → right ≡ promoted k
    → shift from op a b ≡ Fine (Arithmetic op left (to_kind left a) (to_kind right b))
unfolding kinds
shift_both from op a b j k left right h i d e =
    ap (λ o. kinds from (λ j k. Fine (Arithmetic op (promoted j) (to_kind (promoted j) a) (to_kind (promoted k) b))) o (kind_in (value_type b))) h
    ∙ (ap (λ o. kinds from (λ j k. Fine (Arithmetic op (promoted j) (to_kind (promoted j) a) (to_kind (promoted k) b))) (Some j) o) i
    ∙ (ap (λ l. Fine (Arithmetic op l (to_kind l a) (to_kind (promoted k) b))) (sym d)
    ∙ ap (λ l. Fine (Arithmetic op left (to_kind left a) (to_kind l b))) (sym e)))

pub same_kinds : (op : Op) (k : IntKind) → IsRightType op k (Integer k)
same_kinds Shl k = (k, refl)
same_kinds Shr k = (k, refl)
same_kinds _ k = refl

pub shifted_kinds : (op : Op) (j k : IntKind) → (op ≡ Shl) ⊎ (op ≡ Shr) → IsRightType op j (Integer k)
shifted_kinds Shl j k h = (k, refl)
shifted_kinds Shr j k h = (k, refl)
shifted_kinds _ j k h = absurd (elim h [ inl e ↦ cc | inr e ↦ cc ])

-- ---- two tests

tests : {A : Type 0} → (from rule : ℕ) → Checked A → Bool → Bool → Checked A
tests from rule c p q = keep from rule p >> (keep from rule q >> c)

pub no_kind : (c : CType) → kind_in c ≡ None → is_integer c ≡ false
no_kind (Integer k) h = absurd cc
no_kind _ h = refl

pub some_kind : (c : CType) (k : IntKind) → kind_in c ≡ Some k → is_integer c ≡ true
some_kind (Integer j) k h = refl
some_kind _ k h = absurd cc

pub sum_incomplete : (structs : List Extent) (from : ℕ) (s : Sum) (t : CType) (p i : Value) → is_complete structs t ≡ false → pointer_sum structs from 5 s t p i ≡ Broken from 5
unfolding tests
sum_incomplete structs from s t p i h = ap (λ b. tests from 5 (Fine (PointerSum s p (to_kind I64 i) (size_in structs t))) b (is_integer (value_type i))) h

pub sum_no_integer : (structs : List Extent) (from : ℕ) (s : Sum) (t : CType) (p i : Value) → is_complete structs t ≡ true → is_integer (value_type i) ≡ false → pointer_sum structs from 5 s t p i ≡ Broken from 5
unfolding tests
sum_no_integer structs from s t p i h k =
    ap (λ b. tests from 5 (Fine (PointerSum s p (to_kind I64 i) (size_in structs t))) b (is_integer (value_type i))) h
    ∙ ap (λ b. tests from 5 (Fine (PointerSum s p (to_kind I64 i) (size_in structs t))) true b) k

pub sum_made : (structs : List Extent) (from : ℕ) (s : Sum) (t : CType) (p i : Value) (size : ℕ) → is_complete structs t ≡ true → is_integer (value_type i) ≡ true → size ≡ size_in structs t
    → pointer_sum structs from 5 s t p i ≡ Fine (PointerSum s p (to_kind I64 i) size)
unfolding tests
sum_made structs from s t p i size h k e =
    ap (λ b. tests from 5 (Fine (PointerSum s p (to_kind I64 i) (size_in structs t))) b (is_integer (value_type i))) h
    ∙ (ap (λ b. tests from 5 (Fine (PointerSum s p (to_kind I64 i) (size_in structs t))) true b) k
    ∙ ap (λ n. Fine (PointerSum s p (to_kind I64 i) n)) (sym e))

-- ---- which of two operands is a pointer

no_pointers : (structs : List Extent) (from : ℕ) (a b : Value) (t u : CType) → is_pointer t ≡ false → is_pointer u ≡ false → sum_of structs from a b t u ≡ arithmetic from Add a b
no_pointers structs from a b (PointerTo t) u h k = absurd cc
no_pointers structs from a b t (PointerTo u) h k = absurd cc
no_pointers structs from a b _ _ h k = refl

pointer_right : (structs : List Extent) (from : ℕ) (a b : Value) (t u : CType) → is_pointer t ≡ false → sum_of structs from a b t (PointerTo u) ≡ pointer_sum structs from 5 PlusPointer u b a
pointer_right structs from a b (PointerTo t) u h = absurd cc
pointer_right structs from a b _ u h = refl

pub sum_of_left : (structs : List Extent) (from : ℕ) (a b : Value) (t : CType) → value_type a ≡ PointerTo t → sum structs from a b ≡ pointer_sum structs from 5 PointerPlus t a b
sum_of_left structs from a b t h = ap (λ c. sum_of structs from a b c (value_type b)) h

pub sum_of_right : (structs : List Extent) (from : ℕ) (a b : Value) (u : CType) → is_pointer (value_type a) ≡ false → value_type b ≡ PointerTo u → sum structs from a b ≡ pointer_sum structs from 5 PlusPointer u b a
sum_of_right structs from a b u h e = ap (sum_of structs from a b (value_type a)) e ∙ pointer_right structs from a b (value_type a) u h

pub sum_of_integers : (structs : List Extent) (from : ℕ) (a b : Value) → is_pointer (value_type a) ≡ false → is_pointer (value_type b) ≡ false → sum structs from a b ≡ arithmetic from Add a b
sum_of_integers structs from a b h k = no_pointers structs from a b (value_type a) (value_type b) h k

no_pointer_minus : (structs : List Extent) (from : ℕ) (a b : Value) (t u : CType) → is_pointer t ≡ false → difference_of structs from a b t u ≡ arithmetic from Sub a b
no_pointer_minus structs from a b (PointerTo t) u h = absurd cc
no_pointer_minus structs from a b _ u h = refl

pointer_minus : (structs : List Extent) (from : ℕ) (a b : Value) (t u : CType) → is_pointer u ≡ false → difference_of structs from a b (PointerTo t) u ≡ pointer_sum structs from 5 PointerMinus t a b
pointer_minus structs from a b t (PointerTo u) h = absurd cc
pointer_minus structs from a b t _ h = refl

pub difference_of_integers : (structs : List Extent) (from : ℕ) (a b : Value) → is_pointer (value_type a) ≡ false → difference structs from a b ≡ arithmetic from Sub a b
difference_of_integers structs from a b h = no_pointer_minus structs from a b (value_type a) (value_type b) h

pub difference_of_left : (structs : List Extent) (from : ℕ) (a b : Value) (t : CType) → value_type a ≡ PointerTo t → is_pointer (value_type b) ≡ false → difference structs from a b ≡ pointer_sum structs from 5 PointerMinus t a b
difference_of_left structs from a b t e h = ap (λ c. difference_of structs from a b c (value_type b)) e ∙ pointer_minus structs from a b t (value_type b) h

pub difference_of_both : (structs : List Extent) (from : ℕ) (a b : Value) (t u : CType) → value_type a ≡ PointerTo t → value_type b ≡ PointerTo u → difference structs from a b ≡ pointer_difference structs from t u a b
difference_of_both structs from a b t u e f = ap (λ c. difference_of structs from a b c (value_type b)) e ∙ ap (difference_of structs from a b (PointerTo t)) f

-- ---- one test

pub kept : {A : Type 0} (from rule : ℕ) (p : Bool) (c : Checked A) → p ≡ true → (keep from rule p >> c) ≡ c
kept from rule p c h = ap (λ b. keep from rule b >> c) h

pub broken : {A : Type 0} (from rule : ℕ) (p : Bool) (c : Checked A) → p ≡ false → (keep from rule p >> c) ≡ Broken from rule
broken from rule p c h = ap (λ b. keep from rule b >> c) h

pub both_kept : {A : Type 0} (from rule : ℕ) (p q : Bool) (c : Checked A) → p ≡ true → q ≡ true → (keep from rule p >> (keep from rule q >> c)) ≡ c
both_kept from rule p q c h k = kept from rule p (keep from rule q >> c) h ∙ kept from rule q c k

pub second_broken : {A : Type 0} (from rule : ℕ) (p q : Bool) (c : Checked A) → p ≡ true → q ≡ false → (keep from rule p >> (keep from rule q >> c)) ≡ Broken from rule
second_broken from rule p q c h k = kept from rule p (keep from rule q >> c) h ∙ broken from rule q c k

pub first_true : (p q : Bool) → (p && q) ≡ true → p ≡ true
first_true true q h = refl
first_true false q h = h

pub second_true : (p q : Bool) → (p && q) ≡ true → q ≡ true
second_true true q h = h
second_true false q h = absurd cc

-- ---- comparisons

neither_compared : (from : ℕ) (op : Op) (a b : Value) (t u : CType) → is_pointer t ≡ false → is_pointer u ≡ false → comparison_of from op a b t u ≡ arithmetic from op a b
neither_compared from op a b (PointerTo t) u h k = absurd cc
neither_compared from op a b t (PointerTo u) h k = absurd cc
neither_compared from op a b _ _ h k = refl

left_compared : (from : ℕ) (op : Op) (a b : Value) (t u : CType) → is_pointer u ≡ false → comparison_of from op a b (PointerTo t) u ≡ (keep from 5 (is_null b) >> Fine (PointerComparison op a (Convert (PointerTo t) b)))
left_compared from op a b t (PointerTo u) h = absurd cc
left_compared from op a b t _ h = refl

right_compared : (from : ℕ) (op : Op) (a b : Value) (t u : CType) → is_pointer t ≡ false → comparison_of from op a b t (PointerTo u) ≡ (keep from 5 (is_null a) >> Fine (PointerComparison op (Convert (PointerTo u) a) b))
right_compared from op a b (PointerTo t) u h = absurd cc
right_compared from op a b _ u h = refl

pub compared_integers : (from : ℕ) (op : Op) (a b : Value) → is_pointer (value_type a) ≡ false → is_pointer (value_type b) ≡ false → comparison from op a b ≡ arithmetic from op a b
compared_integers from op a b h k = neither_compared from op a b (value_type a) (value_type b) h k

pub compared_pointers : (from : ℕ) (op : Op) (a b : Value) (t u : CType) → value_type a ≡ PointerTo t → value_type b ≡ PointerTo u → comparison from op a b ≡ (keep from 5 (are_comparable t u) >> Fine (PointerComparison op a b))
compared_pointers from op a b t u e f = ap (λ c. comparison_of from op a b c (value_type b)) e ∙ ap (comparison_of from op a b (PointerTo t)) f

pub compared_left : (from : ℕ) (op : Op) (a b : Value) (t : CType) → value_type a ≡ PointerTo t → is_pointer (value_type b) ≡ false
    → comparison from op a b ≡ (keep from 5 (is_null b) >> Fine (PointerComparison op a (Convert (value_type a) b)))
compared_left from op a b t e h =
    ap (λ c. comparison_of from op a b c (value_type b)) e
    ∙ (left_compared from op a b t (value_type b) h
    ∙ ap (λ c. keep from 5 (is_null b) >> Fine (PointerComparison op a (Convert c b))) (sym e))

pub compared_right : (from : ℕ) (op : Op) (a b : Value) (u : CType) → is_pointer (value_type a) ≡ false → value_type b ≡ PointerTo u
    → comparison from op a b ≡ (keep from 5 (is_null a) >> Fine (PointerComparison op (Convert (value_type b) a) b))
compared_right from op a b u h e =
    ap (comparison_of from op a b (value_type a)) e
    ∙ (right_compared from op a b (value_type a) u h
    ∙ ap (λ c. keep from 5 (is_null a) >> Fine (PointerComparison op (Convert c a) b)) (sym e))

-- ---- sizes

sized : (o : Option Extent) (e : Extent) → Some e ≡ option_map capped_extent o → (is_some o ≡ true) × (e.size ≡ elim o [ Some d ↦ capped d.size | None ↦ 0 ])
sized None e h = absurd cc
sized (Some d) e h = (refl, let same : e ≡ capped_extent d = cc in ap (λ x. x.size) same)

unsized : (o : Option Extent) → None ≡ option_map capped_extent o → is_some o ≡ false
unsized None h = refl
unsized (Some d) h = absurd cc

pub size_some : (structs : List Extent) (c : CType) (e : Extent) → Some e ≡ option_map capped_extent (extent_of structs c) → (is_complete structs c ≡ true) × (e.size ≡ size_in structs c)
size_some structs c e h = sized (extent_of structs c) e h

pub size_none : (structs : List Extent) (c : CType) → None ≡ option_map capped_extent (extent_of structs c) → is_complete structs c ≡ false
size_none structs c h = unsized (extent_of structs c) h

-- ---- equal types

pub equal_tests : (r s : Bool) (t u : CType) → IsTrue r ↔ (t ≡ u) → IsTrue s ↔ (t ≡ u) → r ≡ s
equal_tests true true t u h k = refl
equal_tests true false t u h k = sym (k.1 (h.0 refl))
equal_tests false true t u h k = h.1 (k.0 refl)
equal_tests false false t u h k = refl

pub same_as_test : (r : Bool) (t u : CType) → IsTrue r ↔ (t ≡ u) → r ≡ same_type t u
same_as_test r t u h = equal_tests r (same_type t u) t u h (types_compared t u)

both_false : (p q : Bool) → q ≡ false → (p && q) ≡ false
both_false true q h = h
both_false false q h = refl

pub difference_unlike : (structs : List Extent) (from : ℕ) (t u : CType) (a b : Value) → same_type t u ≡ false → pointer_difference structs from t u a b ≡ Broken from 5
difference_unlike structs from t u a b h = broken from 5 (same_type t u && is_complete structs t) (Fine (PointerDifference a b (size_in structs t))) (ap (λ p. p && is_complete structs t) h)

pub difference_incomplete : (structs : List Extent) (from : ℕ) (t u : CType) (a b : Value) → is_complete structs t ≡ false → pointer_difference structs from t u a b ≡ Broken from 5
difference_incomplete structs from t u a b h = broken from 5 (same_type t u && is_complete structs t) (Fine (PointerDifference a b (size_in structs t))) (both_false (same_type t u) (is_complete structs t) h)

pub difference_made : (structs : List Extent) (from : ℕ) (t u : CType) (a b : Value) (size : ℕ) → same_type t u ≡ true → is_complete structs t ≡ true → size ≡ size_in structs t
    → pointer_difference structs from t u a b ≡ Fine (PointerDifference a b size)
difference_made structs from t u a b size h k e =
    kept from 5 (same_type t u && is_complete structs t) (Fine (PointerDifference a b (size_in structs t))) (ap (λ p. p && is_complete structs t) h ∙ k)
    ∙ ap (λ n. Fine (PointerDifference a b n)) (sym e)

-- ---- one operand

pub operand_missing : (from : ℕ) (make : IntKind → Value → Value) (v : Value) → kind_in (value_type v) ≡ None → promoted_operand from make v ≡ Broken from 5
operand_missing from make v h = ap (λ o. need from 5 o >>= (λ k. Fine (make (promoted k) (to_kind (promoted k) v)))) h

pub operand_made : (from : ℕ) (make : IntKind → Value → Value) (v : Value) (k kind : IntKind) → kind_in (value_type v) ≡ Some k → kind ≡ promoted k → promoted_operand from make v ≡ Fine (make kind (to_kind kind v))
operand_made from make v k kind h e =
    ap (λ o. need from 5 o >>= (λ k. Fine (make (promoted k) (to_kind (promoted k) v)))) h ∙ ap (λ j. Fine (make j (to_kind j v))) (sym e)
