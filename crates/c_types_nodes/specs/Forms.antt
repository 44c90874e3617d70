-- Where the type of a node, and the value that it is converted to, come from.
use Rattle.std.specs.Prelude.{ℕ, ◌+◌, Option, Some, None}
use Rattle.r2_num.specs.declared.kinds.IntKind.TheVariants.{I32, I64}
use Rattle.c_types_table.specs.declared.ids.TypeId.{TypeId}
use Rattle.c_types_table.specs.declared.ty.Ty.{Ty}
use Rattle.c_types_table.specs.declared.ty.Ty.TheVariants.{Array}
use Rattle.c_types_rules.specs.TypedTree.{result_kind}
use Rattle.c_types_nodes.specs.declared.node.Node.{Node}
use Rattle.c_types_nodes.specs.declared.node.Node.TheVariants as nodes
use Rattle.c_types_nodes.specs.declared.forms.TypeSource.{TypeSource}
use Rattle.c_types_nodes.specs.declared.forms.TypeSource.TheVariants.{Carried, Integer, TypeOf, PointerTo, Chars}
use Rattle.c_types_nodes.specs.declared.forms.ValueSource.{ValueSource}
use Rattle.c_types_nodes.specs.declared.forms.ValueSource.TheVariants.{Itself, Read, Address, Part}

abbrev pub type_source : Node → TypeSource
type_source (nodes.GlobalObject from place t) = Carried t
type_source (nodes.LocalObject place t) = Carried t
type_source (nodes.TextObject from length) = Chars (length + 1)
type_source (nodes.Pointed v t) = Carried t
type_source (nodes.Element s p i t) = Carried t
type_source (nodes.MemberOf o n t) = Carried t
type_source (nodes.SourceFunction from n t) = Carried t
type_source (nodes.BuiltinFunction from b t) = Carried t
type_source (nodes.Through v t) = Carried t
type_source (nodes.Constant k n) = Integer k
type_source (nodes.FunctionAddress from n t) = PointerTo t
type_source (nodes.ReadOf o) = TypeOf o
type_source (nodes.AddressOf o t) = Carried t
type_source (nodes.Convert t v) = Carried t
type_source (nodes.Negate k v) = Integer k
type_source (nodes.Complement k v) = Integer k
type_source (nodes.Arithmetic op k a b) = Integer (result_kind op k)
type_source (nodes.PointerSum s p i size) = TypeOf p
type_source (nodes.PointerDifference a b size) = Integer I64
type_source (nodes.PointerComparison op a b) = Integer I32
type_source (nodes.Not v) = Integer I32
type_source (nodes.Both a b) = Integer I32
type_source (nodes.Either a b) = Integer I32
type_source (nodes.Choice c a b) = TypeOf a
type_source (nodes.Sequence a b) = TypeOf b
type_source (nodes.Assigned o v) = TypeOf o
type_source (nodes.Changed o op k v) = TypeOf o
type_source (nodes.Moved o w i size) = TypeOf o
type_source (nodes.Stepped o w g size) = TypeOf o
type_source (nodes.CallOf f vs t) = Carried t

abbrev pub value_source : Node → ValueSource
value_source (nodes.GlobalObject from place t) = Read
value_source (nodes.LocalObject place t) = Read
value_source (nodes.TextObject from length) = Read
value_source (nodes.Pointed v t) = Read
value_source (nodes.Element s p i t) = Read
value_source (nodes.MemberOf o n t) = Read
value_source (nodes.SourceFunction from n t) = Address from n t
value_source (nodes.BuiltinFunction from b t) = Address from 0 t
value_source (nodes.Through v t) = Part v
value_source _ = Itself

-- the element of an array's type
abbrev pub element_in : Ty → Option TypeId
element_in (Array t length) = Some t
element_in _ = None
