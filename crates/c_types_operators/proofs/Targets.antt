-- What the definition of `*` says where its tests are known.
use Rattle.std.proofs.Common.{◌≡◌, ℕ, true, false, List, Option, Some, None, refl, ap, ◌∙◌}
use Rattle.c_types_model.specs.Types.{CType, PointerTo, FunctionOf}
use Rattle.c_types_model.specs.declared.extent.Extent.{Extent}
use Rattle.c_types_table.specs.declared.ids.TypeId.{TypeId}
use Rattle.c_types_table.specs.declared.ty.Ty.{Ty}
use Rattle.c_types_rules.specs.Checked.{Fine, Broken, keep, ◌>>◌}
use Rattle.c_types_rules.specs.TypeTests.{is_complete, is_function}
use Rattle.c_types_rules.specs.Expressions.{pointed, pointed_of}
use Rattle.c_types_rules.specs.TypedTree.{Value, AnObject, AFunction, Pointed, Through, value_type}
use Rattle.c_types_operators.specs.Answers.{IsTarget, is_pointer}
use Rattle.c_types_operators.proofs.Rules.{broken, kept}

pub target_missing : (types : List Ty) (c : CType) (o : Option TypeId) → IsTarget types c o → ((x : TypeId) → o ≡ Some x → ⊥) → is_pointer c ≡ false
target_missing types c None h n = h
target_missing types c (Some x) h n = absurd (n x refl)

no_pointer : (structs : List Extent) (from : ℕ) (v : Value) (c : CType) → is_pointer c ≡ false → pointed_of structs from v c ≡ Broken from 14
no_pointer structs from v (PointerTo t) h = absurd cc
no_pointer structs from v _ h = refl

function : (structs : List Extent) (from : ℕ) (v : Value) (t : CType) → is_function t ≡ true → pointed_of structs from v (PointerTo t) ≡ Fine (AFunction (Through v) t)
function structs from v (FunctionOf r ps) h = refl
function structs from v _ h = absurd cc

object : (structs : List Extent) (from : ℕ) (v : Value) (t : CType) → is_function t ≡ false → pointed_of structs from v (PointerTo t) ≡ (keep from 14 (is_complete structs t) >> Fine (AnObject (Pointed v t)))
object structs from v (FunctionOf r ps) h = absurd cc
object structs from v _ h = refl

pub pointed_none : (structs : List Extent) (from : ℕ) (v : Value) → is_pointer (value_type v) ≡ false → pointed structs from v ≡ Broken from 14
pointed_none structs from v h = no_pointer structs from v (value_type v) h

pub pointed_function : (structs : List Extent) (from : ℕ) (v : Value) (t : CType) → value_type v ≡ PointerTo t → is_function t ≡ true → pointed structs from v ≡ Fine (AFunction (Through v) t)
pointed_function structs from v t e h = ap (pointed_of structs from v) e ∙ function structs from v t h

pub pointed_incomplete : (structs : List Extent) (from : ℕ) (v : Value) (t : CType) → value_type v ≡ PointerTo t → is_function t ≡ false → is_complete structs t ≡ false → pointed structs from v ≡ Broken from 14
pointed_incomplete structs from v t e h k = ap (pointed_of structs from v) e ∙ (object structs from v t h ∙ broken from 14 (is_complete structs t) (Fine (AnObject (Pointed v t))) k)

pub pointed_object : (structs : List Extent) (from : ℕ) (v : Value) (t : CType) → value_type v ≡ PointerTo t → is_function t ≡ false → is_complete structs t ≡ true → pointed structs from v ≡ Fine (AnObject (Pointed v t))
pointed_object structs from v t e h k = ap (pointed_of structs from v) e ∙ (object structs from v t h ∙ kept from 14 (is_complete structs t) (Fine (AnObject (Pointed v t))) k)
