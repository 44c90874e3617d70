-- Sizes that are too great for 64 bits count as the greatest of them wherever types have a size.
use Rattle.std.proofs.Common.{◌≡◌, ◌&&◌, ℕ, Bool, List, map, Option, Some, None, is_some, refl, sym, ap, ◌∙◌, subst}
use Rattle.std.specs.Option.{option_map}
use Rattle.std.specs.Prelude.{if◌then◌else◌}
use Rattle.r2_num.specs.declared.kinds.IntKind.TheVariants.{I64}
use Rattle.r2_num.specs.declared.operations.Op.{Op}
use Rattle.r2_num.specs.declared.operations.Op.TheVariants.{Add, Sub}
use Rattle.c_lexer.specs.declared.token.Sign.{Sign}
use Rattle.c_lexer.specs.declared.token.Sign.TheVariants as signs
use Rattle.c_types_model.specs.Types.{CType, Integer, PointerTo, FunctionOf}
use Rattle.c_types_model.specs.Layouts.{capped, capped_extent, extent_of}
use Rattle.c_types_model.specs.declared.extent.Extent.{Extent}
use Rattle.c_types_table.proofs.Extents.{extents_capped}
use Rattle.c_types_operators.specs.Answers.{IsSizeOf}
use Rattle.c_types_rules.specs.Checked.{Checked, Fine, Noted, Broken, keep, noting, ◌>>=◌, ◌>>◌}
use Rattle.c_types_rules.specs.TypeTests.{is_complete, is_integer, same_type}
use Rattle.c_types_rules.specs.Operators.{assignment, assignment_of, binary, compound_of, difference, difference_is_integer, difference_of, is_unfit, left_object, moved, operator_in, pointer_difference, pointer_sum, rule_of_right, size_in, step, step_of, sum, sum_is_pointer, sum_of, to_kind}
use Rattle.c_types_rules.specs.Expressions.{a_value, complete, element, is_small, pointed, pointed_of, postfixed, prefixed, rule_of_incomplete, subscript, subscript_of}
use Rattle.c_types_rules.specs.TypedTree.{Object, Value, Typed, Sum, Way, Given, Up, Down, Moved, Stepped, PointerSum, PointerDifference, AnObject, AFunction, Element, Pointed, Through, PointerPlus, PlusPointer, PointerMinus, New, Old, object_type, value_of, value_type}

abbrev pub cap_all : List Extent → List Extent
cap_all es = map capped_extent es

-- what is read of an extent that may be missing
size_or : Option Extent → ℕ
size_or o = elim o [ Some e ↦ e.size | None ↦ 0 ]

some_capped : (o : Option Extent) → is_some (option_map capped_extent o) ≡ is_some o
some_capped None = refl
some_capped (Some e) = refl

size_capped_once : (o : Option Extent) → elim o [ Some e ↦ capped e.size | None ↦ 0 ] ≡ size_or (option_map capped_extent o)
unfolding size_or
size_capped_once None = refl
size_capped_once (Some e) = refl

pub complete_capped : (es : List Extent) (t : CType) → is_complete (cap_all es) t ≡ is_complete es t
complete_capped es t = sym (some_capped (extent_of (cap_all es) t)) ∙ (ap is_some (extents_capped es t) ∙ some_capped (extent_of es t))

pub size_capped : (es : List Extent) (t : CType) → size_in (cap_all es) t ≡ size_in es t
size_capped es t = size_capped_once (extent_of (cap_all es) t) ∙ (ap size_or (extents_capped es t) ∙ sym (size_capped_once (extent_of es t)))

pub sized : (es : List Extent) (t : CType) (o : Option ℕ) → IsSizeOf (cap_all es) t o → IsSizeOf es t o
sized es t (Some size) h = (sym (complete_capped es t) ∙ h.0, h.1 ∙ size_capped es t)
sized es t None h = sym (complete_capped es t) ∙ h

-- ---- pointers and integers

pub pointer_sum_capped : (es : List Extent) (from rule : ℕ) (s : Sum) (t : CType) (p i : Value) → pointer_sum (cap_all es) from rule s t p i ≡ pointer_sum es from rule s t p i
pointer_sum_capped es from rule s t p i =
    ap (λ c. keep from rule c >> (keep from rule (is_integer (value_type i)) >> Fine (PointerSum s p (to_kind I64 i) (size_in (cap_all es) t)))) (complete_capped es t)
    ∙ ap (λ n. keep from rule (is_complete es t) >> (keep from rule (is_integer (value_type i)) >> Fine (PointerSum s p (to_kind I64 i) n))) (size_capped es t)

sum_of_capped : (es : List Extent) (from : ℕ) (a b : Value) (t u : CType) → sum_of (cap_all es) from a b t u ≡ sum_of es from a b t u
sum_of_capped es from a b (PointerTo t) u = pointer_sum_capped es from 5 PointerPlus t a b
sum_of_capped es from a b t (PointerTo u) = pointer_sum_capped es from 5 PlusPointer u b a
sum_of_capped es from a b _ _ = refl

pointer_difference_capped : (es : List Extent) (from : ℕ) (t u : CType) (a b : Value) → pointer_difference (cap_all es) from t u a b ≡ pointer_difference es from t u a b
pointer_difference_capped es from t u a b =
    ap (λ c. keep from 5 (same_type t u && c) >> Fine (PointerDifference a b (size_in (cap_all es) t))) (complete_capped es t)
    ∙ ap (λ n. keep from 5 (same_type t u && is_complete es t) >> Fine (PointerDifference a b n)) (size_capped es t)

difference_of_capped : (es : List Extent) (from : ℕ) (a b : Value) (t u : CType) → difference_of (cap_all es) from a b t u ≡ difference_of es from a b t u
difference_of_capped es from a b (PointerTo t) (PointerTo u) = pointer_difference_capped es from t u a b
difference_of_capped es from a b (PointerTo t) _ = pointer_sum_capped es from 5 PointerMinus t a b
difference_of_capped es from a b _ u = refl

pub binary_capped : (es : List Extent) (from : ℕ) (s : Sign) (a b : Value) → binary (cap_all es) from s a b ≡ binary es from s a b
binary_capped es from signs.Plus a b = sum_of_capped es from a b (value_type a) (value_type b)
binary_capped es from signs.Minus a b = difference_of_capped es from a b (value_type a) (value_type b)
binary_capped es from _ a b = refl

-- ---- what pointers point to

element_capped : (es : List Extent) (from : ℕ) (s : Sum) (t : CType) (p i : Value) → element (cap_all es) from s t p i ≡ element es from s t p i
element_capped es from s t p i = ap (λ c. keep from 14 c >> (keep from 14 (is_integer (value_type i)) >> Fine (AnObject (Element s p (to_kind I64 i) t)))) (complete_capped es t)

subscript_of_capped : (es : List Extent) (from : ℕ) (a b : Value) (t u : CType) → subscript_of (cap_all es) from a b t u ≡ subscript_of es from a b t u
subscript_of_capped es from a b (PointerTo t) u = element_capped es from PointerPlus t a b
subscript_of_capped es from a b t (PointerTo u) = element_capped es from PlusPointer u b a
subscript_of_capped es from a b _ _ = refl

pub subscript_capped : (es : List Extent) (from : ℕ) (a b : Value) → subscript (cap_all es) from a b ≡ subscript es from a b
subscript_capped es from a b = subscript_of_capped es from a b (value_type a) (value_type b)

object_capped : (es : List Extent) (from : ℕ) (v : Value) (t : CType) → (keep from 14 (is_complete (cap_all es) t) >> Fine (AnObject (Pointed v t))) ≡ (keep from 14 (is_complete es t) >> Fine (AnObject (Pointed v t)))
object_capped es from v t = ap (λ c. keep from 14 c >> Fine (AnObject (Pointed v t))) (complete_capped es t)

target_capped : (es : List Extent) (from : ℕ) (v : Value) (t : CType) → pointed_of (cap_all es) from v (PointerTo t) ≡ pointed_of es from v (PointerTo t)
target_capped es from v (FunctionOf r ps) = refl
target_capped es from v t = object_capped es from v t

pointed_of_capped : (es : List Extent) (from : ℕ) (v : Value) (t : CType) → pointed_of (cap_all es) from v t ≡ pointed_of es from v t
pointed_of_capped es from v (PointerTo t) = target_capped es from v t
pointed_of_capped es from v _ = refl

pub pointed_capped : (es : List Extent) (from : ℕ) (v : Value) → pointed (cap_all es) from v ≡ pointed es from v
pointed_capped es from v = pointed_of_capped es from v (value_type v)

-- ---- what changes objects

moved_capped : (es : List Extent) (from : ℕ) (w : Way) (o : Object) (t : CType) (i : Value) → moved (cap_all es) from w o t i ≡ moved es from w o t i
moved_capped es from w o t i =
    ap (λ c. keep from 5 c >> (keep from 5 (is_integer (value_type i)) >> Fine (Moved o w (to_kind I64 i) (size_in (cap_all es) t)))) (complete_capped es t)
    ∙ ap (λ n. keep from 5 (is_complete es t) >> (keep from 5 (is_integer (value_type i)) >> Fine (Moved o w (to_kind I64 i) n))) (size_capped es t)

compound_of_capped : (es : List Extent) (from : ℕ) (op : Op) (o : Object) (t : CType) (b : Value) → compound_of (cap_all es) from op o t b ≡ compound_of es from op o t b
compound_of_capped es from op o (Integer j) b = refl
compound_of_capped es from Add o (PointerTo t) b = moved_capped es from Up o t b
compound_of_capped es from Sub o (PointerTo t) b = moved_capped es from Down o t b
compound_of_capped es from _ o _ b = refl

pointer_capped : (es : List Extent) (t u : CType) → sum_is_pointer (cap_all es) t u ≡ sum_is_pointer es t u
pointer_capped es (Integer j) (PointerTo u) = complete_capped es u
pointer_capped es _ _ = refl

integer_capped : (es : List Extent) (t u : CType) → difference_is_integer (cap_all es) t u ≡ difference_is_integer es t u
integer_capped es (PointerTo t) (PointerTo u) = ap (λ b. same_type t u && b) (complete_capped es t)
integer_capped es _ _ = refl

unfit_capped : (es : List Extent) (op : Op) (t u : CType) → is_unfit (cap_all es) op t u ≡ is_unfit es op t u
unfit_capped es Add t u = pointer_capped es t u
unfit_capped es Sub t u = integer_capped es t u
unfit_capped es _ t u = refl

right_capped : (es : List Extent) (op : Op) (t u : CType) → rule_of_right (cap_all es) op t u ≡ rule_of_right es op t u
right_capped es op t u = ap (λ b. if b then 6 else 5) (unfit_capped es op t u)

assignment_of_capped : (es : List Extent) (from : ℕ) (op : Option Op) (o : Object) (b : Value) → assignment_of (cap_all es) from op o b ≡ assignment_of es from op o b
assignment_of_capped es from None o b = refl
assignment_of_capped es from (Some op) o b =
    ap (λ n. keep from n (is_integer (value_type b)) >> compound_of (cap_all es) from op o (object_type o) b) (right_capped es op (object_type o) (value_type b))
    ∙ ap (λ c. keep from (rule_of_right es op (object_type o) (value_type b)) (is_integer (value_type b)) >> c) (compound_of_capped es from op o (object_type o) b)

assigned_left : (es : List Extent) (from : ℕ) (op : Option Op) (b : Value) (c : Checked Object) → (c >>= (λ o. assignment_of (cap_all es) from op o b)) ≡ (c >>= (λ o. assignment_of es from op o b))
assigned_left es from op b (Fine o) = assignment_of_capped es from op o b
assigned_left es from op b (Noted n o) = ap (noting n) (assignment_of_capped es from op o b)
assigned_left es from op b (Broken f r) = refl

pub assignment_capped : (es : List Extent) (from : ℕ) (s : Sign) (a : Typed) (b : Value) → assignment (cap_all es) from s a b ≡ assignment es from s a b
assignment_capped es from s a b = assigned_left es from (operator_in s) b (left_object from a)

step_of_capped : (es : List Extent) (from : ℕ) (w : Way) (g : Given) (o : Object) (t : CType) → step_of (cap_all es) from w g o t ≡ step_of es from w g o t
step_of_capped es from w g o (PointerTo t) =
    ap (λ c. keep from 8 c >> Fine (Stepped o w g (size_in (cap_all es) t))) (complete_capped es t) ∙ ap (λ n. keep from 8 (is_complete es t) >> Fine (Stepped o w g n)) (size_capped es t)
step_of_capped es from w g o _ = refl

pub step_capped : (es : List Extent) (from : ℕ) (w : Way) (g : Given) (a : Typed) → step (cap_all es) from w g a ≡ step es from w g a
step_capped es from w g (AnObject o) = step_of_capped es from w g o (object_type o)
step_capped es from w g _ = refl

pub prefixed_capped : (es : List Extent) (from : ℕ) (s : Sign) (a : Typed) → prefixed (cap_all es) from s a ≡ prefixed es from s a
prefixed_capped es from signs.Increment a = ap a_value (step_capped es from Up New a)
prefixed_capped es from signs.Decrement a = ap a_value (step_capped es from Down New a)
prefixed_capped es from signs.Star a = pointed_capped es from (value_of a)
prefixed_capped es from _ a = refl

pub postfixed_capped : (es : List Extent) (from : ℕ) (s : Sign) (a : Typed) → postfixed (cap_all es) from s a ≡ postfixed es from s a
postfixed_capped es from signs.Increment a = ap a_value (step_capped es from Up Old a)
postfixed_capped es from signs.Decrement a = ap a_value (step_capped es from Down Old a)
postfixed_capped es from _ a = refl

-- ---- whole types

pub whole_capped : (es : List Extent) (from : ℕ) (t : CType) → complete (cap_all es) from t ≡ complete es from t
whole_capped es from t = ap (keep from (rule_of_incomplete t)) (complete_capped es t)
