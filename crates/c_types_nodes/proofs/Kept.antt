-- What nodes stand for where there are more types and nodes than before.
use Rattle.std.proofs.Common.{◌≡◌, ℕ, ◌<◌, ◌≤◌, List, [], ◌∷◌, length, Option, Some, refl, sym, ap, ◌∙◌, subst, arith}
use Rattle.std.specs.List.{All}
use Rattle.std.proofs.lemmas.List.Elements.{All-nil, All-cons, All-head, All-tail}
use Rattle.c_types_model.specs.Types.{CType}
use Rattle.c_types_table.specs.declared.ids.TypeId.{TypeId}
use Rattle.c_types_table.specs.Tables.{IsBelow, at}
use Rattle.c_types_rules.specs.TypedTree.{Value, Values, Typed, AnObject, AFunction, AValue, MoreValues, value_type, typed_type}
use Rattle.c_types_nodes.specs.declared.ids.NodeId.{NodeId}
use Rattle.c_types_nodes.specs.declared.node.Node.{Node}
use Rattle.c_types_nodes.specs.declared.node.Node.TheVariants as nodes
use Rattle.c_types_nodes.specs.Parts.{object_in, value_in, callee_in, typed_in, part, typed, object, value, callee, values, IsObject, IsAValue, IsFunction, IsRightType, IsMadeOf, made}

-- the second list has at each number what the first has there
pub record Extends (xs ys : List Typed) : Type 0 where
  pub has : (id : NodeId) (x : Typed) → part xs id ≡ Some x → part ys id ≡ Some x

-- the first n numbers of types stand for the same
pub record SameTypes (n : ℕ) (ts us : List CType) : Type 0 where
  pub same : (t : TypeId) → t.0 < n → at us t ≡ at ts t

-- two lists have the same parts where a third has such
pub record Alike (zs xs ys : List Typed) : Type 0 where
  pub objects : (id : NodeId) → IsObject zs id → object ys id ≡ object xs id
  pub values : (id : NodeId) → IsAValue zs id → value ys id ≡ value xs id
  pub functions : (id : NodeId) → IsFunction zs id → callee ys id ≡ callee xs id

pub value_kept : (xs ys : List Typed) (id : NodeId) → Extends xs ys → IsAValue xs id → value ys id ≡ value xs id
value_kept xs ys id e h = ap value_in (e.has id (AValue (value xs id)) h)

pub object_kept : (xs ys : List Typed) (id : NodeId) → Extends xs ys → IsObject xs id → object ys id ≡ object xs id
object_kept xs ys id e h = ap object_in (e.has id (AnObject (object xs id)) h)

pub callee_kept : (xs ys : List Typed) (id : NodeId) → Extends xs ys → IsFunction xs id → callee ys id ≡ callee xs id
callee_kept xs ys id e h = ap callee_in (e.has id (AFunction (callee xs id) (typed_type (typed xs id))) h)

pub is_value_kept : (xs ys : List Typed) (id : NodeId) → Extends xs ys → IsAValue xs id → IsAValue ys id
is_value_kept xs ys id e h = e.has id (AValue (value xs id)) h ∙ ap (λ v. Some (AValue v)) (sym (value_kept xs ys id e h))

pub is_object_kept : (xs ys : List Typed) (id : NodeId) → Extends xs ys → IsObject xs id → IsObject ys id
is_object_kept xs ys id e h = e.has id (AnObject (object xs id)) h ∙ ap (λ o. Some (AnObject o)) (sym (object_kept xs ys id e h))

pub is_function_kept : (xs ys : List Typed) (id : NodeId) → Extends xs ys → IsFunction xs id → IsFunction ys id
is_function_kept xs ys id e h =
    let there : part ys id ≡ Some (AFunction (callee xs id) (typed_type (typed xs id))) = e.has id (AFunction (callee xs id) (typed_type (typed xs id))) h in
    let same : callee ys id ≡ callee xs id = callee_kept xs ys id e h in
    let type : typed_type (typed ys id) ≡ typed_type (typed xs id) = ap (λ o. typed_type (typed_in o)) there in
    there ∙ (ap (λ f. Some (AFunction f (typed_type (typed xs id)))) (sym same) ∙ ap (λ t. Some (AFunction (callee ys id) t)) (sym type))

are_values_kept : (xs ys : List Typed) (ids : List NodeId) → Extends xs ys → All (IsAValue xs) ids → All (IsAValue ys) ids
are_values_kept xs ys [] e h = All-nil (IsAValue ys)
are_values_kept xs ys (id ∷ ids) e h =
    All-cons (IsAValue ys) id ids (is_value_kept xs ys id e (All-head (IsAValue xs) id ids h)) (are_values_kept xs ys ids e (All-tail (IsAValue xs) id ids h))

values_like : (zs xs ys : List Typed) (ids : List NodeId) → Alike zs xs ys → All (IsAValue zs) ids → values ys ids ≡ values xs ids
values_like zs xs ys [] l h = refl
values_like zs xs ys (id ∷ ids) l h =
    let first : value ys id ≡ value xs id = l.values id (All-head (IsAValue zs) id ids h) in
    let rest : values ys ids ≡ values xs ids = values_like zs xs ys ids l (All-tail (IsAValue zs) id ids h) in
    ap (λ v. MoreValues v (values ys ids)) first ∙ ap (MoreValues (value xs id)) rest

below : (m n : ℕ) (t : TypeId) → m ≤ n → IsBelow m t → IsBelow n t
below m n t le h = omega arith

-- a node may be put wherever there is more
pub parts_kept : (few many : ℕ) (xs ys : List Typed) (node : Node) → few ≤ many → Extends xs ys → IsMadeOf few xs node → IsMadeOf many ys node
parts_kept few many xs ys (nodes.GlobalObject from place t) le e h = below few many t le h
parts_kept few many xs ys (nodes.LocalObject place t) le e h = below few many t le h
parts_kept few many xs ys (nodes.TextObject from bytes) le e h = h
parts_kept few many xs ys (nodes.Pointed v t) le e h = (is_value_kept xs ys v e h.0, below few many t le h.1)
parts_kept few many xs ys (nodes.Element s p i t) le e h = (is_value_kept xs ys p e h.0, is_value_kept xs ys i e h.1, below few many t le h.2)
parts_kept few many xs ys (nodes.MemberOf o number t) le e h = (is_object_kept xs ys o e h.0, below few many t le h.1)
parts_kept few many xs ys (nodes.SourceFunction from number t) le e h = below few many t le h
parts_kept few many xs ys (nodes.BuiltinFunction from b t) le e h = below few many t le h
parts_kept few many xs ys (nodes.Through v t) le e h = (is_value_kept xs ys v e h.0, below few many t le h.1)
parts_kept few many xs ys (nodes.Constant k n) le e h = h
parts_kept few many xs ys (nodes.FunctionAddress from number t) le e h = below few many t le h
parts_kept few many xs ys (nodes.ReadOf o) le e h = is_object_kept xs ys o e h
parts_kept few many xs ys (nodes.AddressOf o t) le e h = (is_object_kept xs ys o e h.0, below few many t le h.1)
parts_kept few many xs ys (nodes.Convert t v) le e h = (is_value_kept xs ys v e h.0, below few many t le h.1)
parts_kept few many xs ys (nodes.Negate k v) le e h = is_value_kept xs ys v e h
parts_kept few many xs ys (nodes.Complement k v) le e h = is_value_kept xs ys v e h
parts_kept few many xs ys (nodes.Arithmetic op k a b) le e h = (is_value_kept xs ys a e h.0, is_value_kept xs ys b e h.1, ap value_type (value_kept xs ys a e h.0) ∙ h.2, let right : Value → Type 0 = λ w. IsRightType op k (value_type w) in subst right (sym (value_kept xs ys b e h.1)) h.3)
parts_kept few many xs ys (nodes.PointerSum s p i size) le e h = (is_value_kept xs ys p e h.0, is_value_kept xs ys i e h.1)
parts_kept few many xs ys (nodes.PointerDifference a b size) le e h = (is_value_kept xs ys a e h.0, is_value_kept xs ys b e h.1)
parts_kept few many xs ys (nodes.PointerComparison op a b) le e h = (is_value_kept xs ys a e h.0, is_value_kept xs ys b e h.1)
parts_kept few many xs ys (nodes.Not v) le e h = is_value_kept xs ys v e h
parts_kept few many xs ys (nodes.Both a b) le e h = (is_value_kept xs ys a e h.0, is_value_kept xs ys b e h.1)
parts_kept few many xs ys (nodes.Either a b) le e h = (is_value_kept xs ys a e h.0, is_value_kept xs ys b e h.1)
parts_kept few many xs ys (nodes.Choice c a b) le e h = (is_value_kept xs ys c e h.0, is_value_kept xs ys a e h.1, is_value_kept xs ys b e h.2, ap value_type (value_kept xs ys a e h.1) ∙ (h.3 ∙ sym (ap value_type (value_kept xs ys b e h.2))))
parts_kept few many xs ys (nodes.Sequence a b) le e h = (is_value_kept xs ys a e h.0, is_value_kept xs ys b e h.1)
parts_kept few many xs ys (nodes.Assigned o v) le e h = (is_object_kept xs ys o e h.0, is_value_kept xs ys v e h.1)
parts_kept few many xs ys (nodes.Changed o op k v) le e h = (is_object_kept xs ys o e h.0, is_value_kept xs ys v e h.1)
parts_kept few many xs ys (nodes.Moved o w i size) le e h = (is_object_kept xs ys o e h.0, is_value_kept xs ys i e h.1)
parts_kept few many xs ys (nodes.Stepped o w g size) le e h = is_object_kept xs ys o e h
parts_kept few many xs ys (nodes.CallOf f vs t) le e h = (is_function_kept xs ys f e h.0, are_values_kept xs ys vs e h.1, below few many t le h.2)

-- a node stands for the same where its parts do
pub made_like : (few : ℕ) (ts us : List CType) (zs xs ys : List Typed) (node : Node) → SameTypes few ts us → Alike zs xs ys → IsMadeOf few zs node → made us ys node ≡ made ts xs node
made_like few ts us zs xs ys (nodes.GlobalObject from place t) st al h = let e0 : at us t ≡ at ts t = st.same t h in cc
made_like few ts us zs xs ys (nodes.LocalObject place t) st al h = let e0 : at us t ≡ at ts t = st.same t h in cc
made_like few ts us zs xs ys (nodes.TextObject from bytes) st al h = refl
made_like few ts us zs xs ys (nodes.Pointed v t) st al h = let e0 : value ys v ≡ value xs v = al.values v h.0 in let e1 : at us t ≡ at ts t = st.same t h.1 in cc
made_like few ts us zs xs ys (nodes.Element s p i t) st al h = let e0 : value ys p ≡ value xs p = al.values p h.0 in let e1 : value ys i ≡ value xs i = al.values i h.1 in let e2 : at us t ≡ at ts t = st.same t h.2 in cc
made_like few ts us zs xs ys (nodes.MemberOf o number t) st al h = let e0 : object ys o ≡ object xs o = al.objects o h.0 in let e1 : at us t ≡ at ts t = st.same t h.1 in cc
made_like few ts us zs xs ys (nodes.SourceFunction from number t) st al h = let e0 : at us t ≡ at ts t = st.same t h in cc
made_like few ts us zs xs ys (nodes.BuiltinFunction from b t) st al h = let e0 : at us t ≡ at ts t = st.same t h in cc
made_like few ts us zs xs ys (nodes.Through v t) st al h = let e0 : value ys v ≡ value xs v = al.values v h.0 in let e1 : at us t ≡ at ts t = st.same t h.1 in cc
made_like few ts us zs xs ys (nodes.Constant k m) st al h = refl
made_like few ts us zs xs ys (nodes.FunctionAddress from number t) st al h = let e0 : at us t ≡ at ts t = st.same t h in cc
made_like few ts us zs xs ys (nodes.ReadOf o) st al h = let e0 : object ys o ≡ object xs o = al.objects o h in cc
made_like few ts us zs xs ys (nodes.AddressOf o t) st al h = let e0 : object ys o ≡ object xs o = al.objects o h.0 in let e1 : at us t ≡ at ts t = st.same t h.1 in cc
made_like few ts us zs xs ys (nodes.Convert t v) st al h = let e0 : value ys v ≡ value xs v = al.values v h.0 in let e1 : at us t ≡ at ts t = st.same t h.1 in cc
made_like few ts us zs xs ys (nodes.Negate k v) st al h = let e0 : value ys v ≡ value xs v = al.values v h in cc
made_like few ts us zs xs ys (nodes.Complement k v) st al h = let e0 : value ys v ≡ value xs v = al.values v h in cc
made_like few ts us zs xs ys (nodes.Arithmetic op k a b) st al h = let e0 : value ys a ≡ value xs a = al.values a h.0 in let e1 : value ys b ≡ value xs b = al.values b h.1 in cc
made_like few ts us zs xs ys (nodes.PointerSum s p i size) st al h = let e0 : value ys p ≡ value xs p = al.values p h.0 in let e1 : value ys i ≡ value xs i = al.values i h.1 in cc
made_like few ts us zs xs ys (nodes.PointerDifference a b size) st al h = let e0 : value ys a ≡ value xs a = al.values a h.0 in let e1 : value ys b ≡ value xs b = al.values b h.1 in cc
made_like few ts us zs xs ys (nodes.PointerComparison op a b) st al h = let e0 : value ys a ≡ value xs a = al.values a h.0 in let e1 : value ys b ≡ value xs b = al.values b h.1 in cc
made_like few ts us zs xs ys (nodes.Not v) st al h = let e0 : value ys v ≡ value xs v = al.values v h in cc
made_like few ts us zs xs ys (nodes.Both a b) st al h = let e0 : value ys a ≡ value xs a = al.values a h.0 in let e1 : value ys b ≡ value xs b = al.values b h.1 in cc
made_like few ts us zs xs ys (nodes.Either a b) st al h = let e0 : value ys a ≡ value xs a = al.values a h.0 in let e1 : value ys b ≡ value xs b = al.values b h.1 in cc
made_like few ts us zs xs ys (nodes.Choice c a b) st al h = let e0 : value ys c ≡ value xs c = al.values c h.0 in let e1 : value ys a ≡ value xs a = al.values a h.1 in let e2 : value ys b ≡ value xs b = al.values b h.2 in cc
made_like few ts us zs xs ys (nodes.Sequence a b) st al h = let e0 : value ys a ≡ value xs a = al.values a h.0 in let e1 : value ys b ≡ value xs b = al.values b h.1 in cc
made_like few ts us zs xs ys (nodes.Assigned o v) st al h = let e0 : object ys o ≡ object xs o = al.objects o h.0 in let e1 : value ys v ≡ value xs v = al.values v h.1 in cc
made_like few ts us zs xs ys (nodes.Changed o op k v) st al h = let e0 : object ys o ≡ object xs o = al.objects o h.0 in let e1 : value ys v ≡ value xs v = al.values v h.1 in cc
made_like few ts us zs xs ys (nodes.Moved o w i size) st al h = let e0 : object ys o ≡ object xs o = al.objects o h.0 in let e1 : value ys i ≡ value xs i = al.values i h.1 in cc
made_like few ts us zs xs ys (nodes.Stepped o w g size) st al h = let e0 : object ys o ≡ object xs o = al.objects o h in cc
made_like few ts us zs xs ys (nodes.CallOf f vs t) st al h = let e0 : callee ys f ≡ callee xs f = al.functions f h.0 in let e1 : values ys vs ≡ values xs vs = values_like zs xs ys vs al h.1 in let e2 : at us t ≡ at ts t = st.same t h.2 in cc
