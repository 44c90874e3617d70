-- What nodes stand for, where the numbers of types stand for `ts` and those of nodes for `xs`.
use Rattle.std.specs.Prelude.{◌≡◌, ℕ, pos, ◌<◌, List, [], ◌∷◌, length, Option, Some, None, slice_get}
use Rattle.std.specs.List.{All}
use Rattle.r2_num.specs.declared.kinds.IntKind.{IntKind}
use Rattle.r2_num.specs.declared.kinds.IntKind.TheVariants.{I32}
use Rattle.r2_num.specs.declared.operations.Op.{Op}
use Rattle.r2_num.specs.declared.operations.Op.TheVariants.{Shl, Shr}
use Rattle.r2_num.specs.Kinds.{IsValue}
use Rattle.c_types_model.specs.Types.{CType, Void, Integer}
use Rattle.c_types_table.specs.declared.ids.TypeId.{TypeId}
use Rattle.c_types_table.specs.Tables.{IsBelow, at}
use Rattle.c_types_rules.specs.TypedTree as tree
use Rattle.c_types_rules.specs.TypedTree.{Object, Value, Values, Callee, Typed, AnObject, AFunction, AValue, NoValues, MoreValues, object_type, value_type, typed_type}
use Rattle.c_types_nodes.specs.declared.ids.NodeId.{NodeId}
use Rattle.c_types_nodes.specs.declared.node.Node.{Node}
use Rattle.c_types_nodes.specs.declared.node.Node.TheVariants as nodes
use Rattle.c_types_nodes.specs.declared.node.Sum.{Sum}
use Rattle.c_types_nodes.specs.declared.node.Sum.TheVariants as sums
use Rattle.c_types_nodes.specs.declared.node.Way.{Way}
use Rattle.c_types_nodes.specs.declared.node.Way.TheVariants as ways
use Rattle.c_types_nodes.specs.declared.node.Given.{Given}
use Rattle.c_types_nodes.specs.declared.node.Given.TheVariants as givens

abbrev pub sum_in : Sum → tree.Sum
sum_in sums.PointerPlus = tree.PointerPlus
sum_in sums.PlusPointer = tree.PlusPointer
sum_in sums.PointerMinus = tree.PointerMinus

abbrev pub way_in : Way → tree.Way
way_in ways.Up = tree.Up
way_in ways.Down = tree.Down

abbrev pub given_in : Given → tree.Given
given_in givens.New = tree.New
given_in givens.Old = tree.Old

-- the parts of what stands at a number, where it is an object, a value or a function; `made` reads only
-- such
abbrev pub object_in : Option Typed → Object
object_in (Some (AnObject o)) = o
object_in _ = tree.GlobalObject 0 0 Void

abbrev pub value_in : Option Typed → Value
value_in (Some (AValue v)) = v
value_in _ = tree.Constant I32 (pos 0)

abbrev pub callee_in : Option Typed → Callee
callee_in (Some (AFunction f t)) = f
callee_in _ = tree.SourceFunction 0 0

abbrev pub typed_in : Option Typed → Typed
typed_in (Some x) = x
typed_in None = AValue (tree.Constant I32 (pos 0))

abbrev pub part : List Typed → NodeId → Option Typed
part xs id = slice_get xs id.0

abbrev pub typed : List Typed → NodeId → Typed
typed xs id = typed_in (part xs id)

abbrev pub object : List Typed → NodeId → Object
object xs id = object_in (part xs id)

abbrev pub value : List Typed → NodeId → Value
value xs id = value_in (part xs id)

abbrev pub callee : List Typed → NodeId → Callee
callee xs id = callee_in (part xs id)

abbrev pub values : List Typed → List NodeId → Values
values xs [] = NoValues
values xs (id ∷ ids) = MoreValues (value xs id) (values xs ids)

abbrev pub IsObject : List Typed → NodeId → Type 0
IsObject xs id = part xs id ≡ Some (AnObject (object xs id))

abbrev pub IsAValue : List Typed → NodeId → Type 0
IsAValue xs id = part xs id ≡ Some (AValue (value xs id))

abbrev pub IsFunction : List Typed → NodeId → Type 0
IsFunction xs id = part xs id ≡ Some (AFunction (callee xs id) (typed_type (typed xs id)))

-- what a node stands for
abbrev pub made : (ts : List CType) → (xs : List Typed) → Node → Typed
made ts xs (nodes.GlobalObject from place t) = AnObject (tree.GlobalObject from place (at ts t))
made ts xs (nodes.LocalObject place t) = AnObject (tree.LocalObject place (at ts t))
made ts xs (nodes.TextObject from length) = AnObject (tree.TextObject from length)
made ts xs (nodes.Pointed v t) = AnObject (tree.Pointed (value xs v) (at ts t))
made ts xs (nodes.Element s p i t) = AnObject (tree.Element (sum_in s) (value xs p) (value xs i) (at ts t))
made ts xs (nodes.MemberOf o n t) = AnObject (tree.MemberOf (object xs o) n (at ts t))
made ts xs (nodes.SourceFunction from n t) = AFunction (tree.SourceFunction from n) (at ts t)
made ts xs (nodes.BuiltinFunction from b t) = AFunction (tree.BuiltinFunction from b) (at ts t)
made ts xs (nodes.Through v t) = AFunction (tree.Through (value xs v)) (at ts t)
made ts xs (nodes.Constant k n) = AValue (tree.Constant k n)
made ts xs (nodes.FunctionAddress from n t) = AValue (tree.FunctionAddress from n (at ts t))
made ts xs (nodes.ReadOf o) = AValue (tree.ReadOf (object xs o))
made ts xs (nodes.AddressOf o t) = AValue (tree.AddressOf (object xs o) (at ts t))
made ts xs (nodes.Convert t v) = AValue (tree.Convert (at ts t) (value xs v))
made ts xs (nodes.Negate k v) = AValue (tree.Negate k (value xs v))
made ts xs (nodes.Complement k v) = AValue (tree.Complement k (value xs v))
made ts xs (nodes.Arithmetic op k a b) = AValue (tree.Arithmetic op k (value xs a) (value xs b))
made ts xs (nodes.PointerSum s p i size) = AValue
    (tree.PointerSum (sum_in s) (value xs p) (value xs i) size)
made ts xs (nodes.PointerDifference a b size) =
    AValue (tree.PointerDifference (value xs a) (value xs b) size)
made ts xs (nodes.PointerComparison op a b) = AValue (tree.PointerComparison op (value xs a) (value xs b))
made ts xs (nodes.Not v) = AValue (tree.Not (value xs v))
made ts xs (nodes.Both a b) = AValue (tree.Both (value xs a) (value xs b))
made ts xs (nodes.Either a b) = AValue (tree.Either (value xs a) (value xs b))
made ts xs (nodes.Choice c a b) = AValue (tree.Choice (value xs c) (value xs a) (value xs b))
made ts xs (nodes.Sequence a b) = AValue (tree.Sequence (value xs a) (value xs b))
made ts xs (nodes.Assigned o v) = AValue (tree.Assigned (object xs o) (value xs v))
made ts xs (nodes.Changed o op k v) = AValue (tree.Changed (object xs o) op k (value xs v))
made ts xs (nodes.Moved o w i size) = AValue (tree.Moved (object xs o) (way_in w) (value xs i) size)
made ts xs (nodes.Stepped o w g size) = AValue (tree.Stepped (object xs o) (way_in w) (given_in g) size)
made ts xs (nodes.CallOf f vs t) = AValue (tree.CallOf (callee xs f) (values xs vs) (at ts t))

-- the type of the right side of an operator on two values of a kind; a shift's count may be of any kind
abbrev pub IsRightType : Op → IntKind → CType → Type 0
IsRightType Shl k t = (j : IntKind) × (t ≡ Integer j)
IsRightType Shr k t = (j : IntKind) × (t ≡ Integer j)
IsRightType op k t = t ≡ Integer k

-- the parts of a node are among n types and `xs`, and each is what the node has there; a constant is in the
-- range of its
-- kind, operands are of the kind of their operator, and both arms of a choice have one type
abbrev pub IsMadeOf : (n : ℕ) → (xs : List Typed) → Node → Type 0
IsMadeOf n xs (nodes.GlobalObject from place t) = IsBelow n t
IsMadeOf n xs (nodes.LocalObject place t) = IsBelow n t
IsMadeOf n xs (nodes.TextObject from length) = Unit {0}
IsMadeOf n xs (nodes.Pointed v t) = IsAValue xs v × IsBelow n t
IsMadeOf n xs (nodes.Element s p i t) = IsAValue xs p × IsAValue xs i × IsBelow n t
IsMadeOf n xs (nodes.MemberOf o number t) = IsObject xs o × IsBelow n t
IsMadeOf n xs (nodes.SourceFunction from number t) = IsBelow n t
IsMadeOf n xs (nodes.BuiltinFunction from b t) = IsBelow n t
IsMadeOf n xs (nodes.Through v t) = IsAValue xs v × IsBelow n t
IsMadeOf n xs (nodes.Constant k m) = IsValue k m
IsMadeOf n xs (nodes.FunctionAddress from number t) = IsBelow n t
IsMadeOf n xs (nodes.ReadOf o) = IsObject xs o
IsMadeOf n xs (nodes.AddressOf o t) = IsObject xs o × IsBelow n t
IsMadeOf n xs (nodes.Convert t v) = IsAValue xs v × IsBelow n t
IsMadeOf n xs (nodes.Negate k v) = IsAValue xs v
IsMadeOf n xs (nodes.Complement k v) = IsAValue xs v
IsMadeOf n xs (nodes.Arithmetic op k a b) = IsAValue xs a × IsAValue xs b ×
    (value_type (value xs a) ≡ Integer k) × IsRightType op k (value_type (value xs b))
IsMadeOf n xs (nodes.PointerSum s p i size) = IsAValue xs p × IsAValue xs i
IsMadeOf n xs (nodes.PointerDifference a b size) = IsAValue xs a × IsAValue xs b
IsMadeOf n xs (nodes.PointerComparison op a b) = IsAValue xs a × IsAValue xs b
IsMadeOf n xs (nodes.Not v) = IsAValue xs v
IsMadeOf n xs (nodes.Both a b) = IsAValue xs a × IsAValue xs b
IsMadeOf n xs (nodes.Either a b) = IsAValue xs a × IsAValue xs b
IsMadeOf n xs (nodes.Choice c a b) = IsAValue xs c × IsAValue xs a × IsAValue xs b ×
    (value_type (value xs a) ≡ value_type (value xs b))
IsMadeOf n xs (nodes.Sequence a b) = IsAValue xs a × IsAValue xs b
IsMadeOf n xs (nodes.Assigned o v) = IsObject xs o × IsAValue xs v
IsMadeOf n xs (nodes.Changed o op k v) = IsObject xs o × IsAValue xs v
IsMadeOf n xs (nodes.Moved o w i size) = IsObject xs o × IsAValue xs i
IsMadeOf n xs (nodes.Stepped o w g size) = IsObject xs o
IsMadeOf n xs (nodes.CallOf f vs t) = IsFunction xs f × All (IsAValue xs) vs × IsBelow n t
