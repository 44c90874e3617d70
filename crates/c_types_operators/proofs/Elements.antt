-- What the definition of subscripts says where its tests are known.
use Rattle.std.proofs.Common.{◌≡◌, ℕ, true, false, List, Some, Result, Err, refl, sym, ap, ◌∙◌, subst}
use Rattle.r2_num.specs.declared.kinds.IntKind.TheVariants.{I64}
use Rattle.c_types_model.specs.Types.{CType, PointerTo}
use Rattle.c_types_model.specs.declared.extent.Extent.{Extent}
use Rattle.c_types_table.specs.declared.ids.TypeId.{TypeId}
use Rattle.c_types_table.specs.Tables.{type_at}
use Rattle.c_types_rules.specs.Checked.{Checked, Fine, Broken, keep, ◌>>◌}
use Rattle.c_types_rules.specs.TypeTests.{is_complete, is_integer}
use Rattle.c_types_rules.specs.Operators.{to_kind}
use Rattle.c_types_rules.specs.Expressions.{element, subscript, subscript_of}
use Rattle.c_types_rules.specs.TypedTree.{Value, Typed, Sum, AnObject, AValue, Element, PointerPlus, PlusPointer, value_type}
use Rattle.c_types_nodes.specs.declared.ids.NodeId.{NodeId}
use Rattle.c_types_nodes.specs.Tables.{Table, typed_at, value_at, IsValueAt, Keeps}
use Rattle.c_types_operators.specs.declared.error.TypeError.{TypeError}
use Rattle.c_types_operators.specs.declared.error.TypeError.TheVariants.{Rule}
use Rattle.c_types_operators.specs.Answers.{Agrees, StandsAt, is_pointer}
use Rattle.c_types_operators.proofs.Rules.{broken, second_broken, both_kept}
use Rattle.c_types_operators.proofs.Values.{value_is, value_stays}

pub object_passed : (t : Table) (c d : Checked Typed) (r : Result NodeId TypeError) → c ≡ d → Agrees (StandsAt t) d r → Agrees (StandsAt t) c r
object_passed t c d r e h = let same : Checked Typed → Type 0 = λ x. Agrees (StandsAt t) x r in subst same (sym e) h

pub object_rule : (t : Table) (c : Checked Typed) (from number : ℕ) → c ≡ Broken from number → Agrees (StandsAt t) c (Err (Rule from number))
object_rule t c from number e = object_passed t c (Broken from number) (Err (Rule from number)) e (refl, refl)

pub element_incomplete : (structs : List Extent) (from : ℕ) (s : Sum) (t : CType) (p i : Value) → is_complete structs t ≡ false → element structs from s t p i ≡ Broken from 14
element_incomplete structs from s t p i h = broken from 14 (is_complete structs t) (keep from 14 (is_integer (value_type i)) >> Fine (AnObject (Element s p (to_kind I64 i) t))) h

pub element_no_integer : (structs : List Extent) (from : ℕ) (s : Sum) (t : CType) (p i : Value) → is_complete structs t ≡ true → is_integer (value_type i) ≡ false → element structs from s t p i ≡ Broken from 14
element_no_integer structs from s t p i h k = second_broken from 14 (is_complete structs t) (is_integer (value_type i)) (Fine (AnObject (Element s p (to_kind I64 i) t))) h k

pub element_made : (structs : List Extent) (from : ℕ) (s : Sum) (t : CType) (p i : Value) → is_complete structs t ≡ true → is_integer (value_type i) ≡ true → element structs from s t p i ≡ Fine (AnObject (Element s p (to_kind I64 i) t))
element_made structs from s t p i h k = both_kept from 14 (is_complete structs t) (is_integer (value_type i)) (Fine (AnObject (Element s p (to_kind I64 i) t))) h k

no_pointers : (structs : List Extent) (from : ℕ) (a b : Value) (t u : CType) → is_pointer t ≡ false → is_pointer u ≡ false → subscript_of structs from a b t u ≡ Broken from 14
no_pointers structs from a b (PointerTo t) u h k = absurd cc
no_pointers structs from a b t (PointerTo u) h k = absurd cc
no_pointers structs from a b _ _ h k = refl

pointer_right : (structs : List Extent) (from : ℕ) (a b : Value) (t u : CType) → is_pointer t ≡ false → subscript_of structs from a b t (PointerTo u) ≡ element structs from PlusPointer u b a
pointer_right structs from a b (PointerTo t) u h = absurd cc
pointer_right structs from a b _ u h = refl

pub subscript_left : (structs : List Extent) (from : ℕ) (a b : Value) (t : CType) → value_type a ≡ PointerTo t → subscript structs from a b ≡ element structs from PointerPlus t a b
subscript_left structs from a b t h = ap (λ c. subscript_of structs from a b c (value_type b)) h

pub subscript_right : (structs : List Extent) (from : ℕ) (a b : Value) (u : CType) → is_pointer (value_type a) ≡ false → value_type b ≡ PointerTo u → subscript structs from a b ≡ element structs from PlusPointer u b a
subscript_right structs from a b u h e = ap (subscript_of structs from a b (value_type a)) e ∙ pointer_right structs from a b (value_type a) u h

pub subscript_none : (structs : List Extent) (from : ℕ) (a b : Value) → is_pointer (value_type a) ≡ false → is_pointer (value_type b) ≡ false → subscript structs from a b ≡ Broken from 14
subscript_none structs from a b h k = no_pointers structs from a b (value_type a) (value_type b) h k

pub element_is : (t u : Table) (s : Sum) (p i : NodeId) (ty : TypeId) (v : Value) (c : CType) → Keeps t u → IsValueAt t p → typed_at u i ≡ Some (AValue v) → c ≡ type_at t.types ty
    → AnObject (Element s (value_at u p) (value_at u i) c) ≡ AnObject (Element s (value_at t p) v (type_at t.types ty))
element_is t u s p i ty v c k h e same =
    ap (λ w. AnObject (Element s w (value_at u i) c)) (value_stays t u p k h)
    ∙ (ap (λ w. AnObject (Element s (value_at t p) w c)) (value_is u i v e) ∙ ap (λ d. AnObject (Element s (value_at t p) v d)) same)
