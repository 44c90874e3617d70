-- Tables of types and typed nodes, each after its parts.
use Rattle.std.specs.Prelude.{◌≡◌, ℕ, ◌<◌, List, [], ◌∷◌, ◌++◌, ◌≤◌, length, Option, Some, slice_get}
use Rattle.r2_num.specs.declared.kinds.IntKind.{IntKind}
use Rattle.r2_num.specs.declared.kinds.IntKind.TheVariants.{I8, U8, I16, U16, I32, U32, I64, U64}
use Rattle.c_types_model.specs.Types.{CType, Void, Integer}
use Rattle.c_types_table.specs.declared.ids.TypeId.{TypeId}
use Rattle.c_types_table.specs.declared.ty.Ty.{Ty}
use Rattle.c_types_table.specs.Tables.{types_of, type_at}
use Rattle.c_types_rules.specs.TypedTree.{Object, Value, Callee, Typed, typed_type}
use Rattle.c_types_nodes.specs.declared.ids.NodeId.{NodeId}
use Rattle.c_types_nodes.specs.declared.node.Node.{Node}
use Rattle.c_types_nodes.specs.declared.entry.Entry.{Entry}
use Rattle.c_types_nodes.specs.declared.basics.BasicTypes.{BasicTypes}
use Rattle.c_types_nodes.specs.Parts.{made, IsMadeOf, part, typed, object, value, callee, IsObject, IsAValue, IsFunction}

-- the types of a table, and its nodes, each with the number of its type
pub record Table : Type 0 where
  pub types : List Ty
  pub entries : List Entry

-- what the numbers of nodes stand for, where those before stand for `xs`
abbrev pub typed_after : (ts : List CType) → (xs : List Typed) → List Entry → List Typed
typed_after ts xs [] = xs
typed_after ts xs (e ∷ es) = typed_after ts (xs ++ made ts xs e.node ∷ []) es

-- what the numbers of a table's nodes stand for
unfoldable pub typed_of : Table → List Typed
typed_of t = typed_after (types_of t.types) [] t.entries

-- what the number of a node stands for; None of a number that isn't in the table
abbrev pub typed_at : Table → NodeId → Option Typed
typed_at t id = part (typed_of t) id

-- what stands at a number where that is an object, a value or a function
abbrev pub object_at : Table → NodeId → Object
object_at t id = object (typed_of t) id

abbrev pub value_at : Table → NodeId → Value
value_at t id = value (typed_of t) id

abbrev pub callee_at : Table → NodeId → Callee
callee_at t id = callee (typed_of t) id

abbrev pub node_at : Table → NodeId → Typed
node_at t id = typed (typed_of t) id

abbrev pub IsObjectAt : Table → NodeId → Type 0
IsObjectAt t id = IsObject (typed_of t) id

abbrev pub IsValueAt : Table → NodeId → Type 0
IsValueAt t id = IsAValue (typed_of t) id

abbrev pub IsFunctionAt : Table → NodeId → Type 0
IsFunctionAt t id = IsFunction (typed_of t) id

-- the number is that of a node of the table
abbrev pub IsNode : Table → NodeId → Type 0
IsNode t id = typed_at t id ≡ Some (node_at t id)

-- the number of a type stands for this one
pub record Names (types : List Ty) (id : TypeId) (c : CType) : Type 0 where
  pub inside : id.0 < length types
  pub is : type_at types id ≡ c

-- all numbers of types stand for what they did
pub record KeepsTypes (old new : List Ty) : Type 0 where
  pub more : length old ≤ length new
  pub names : (id : TypeId) (c : CType) → Names old id c → Names new id c

-- what a node stands for, and that it may be put into the table
abbrev pub made_in : Table → Node → Typed
made_in t n = made (types_of t.types) (typed_of t) n

abbrev pub CanHold : Table → Node → Type 0
CanHold t n = IsMadeOf (length t.types) (typed_of t) n

-- all numbers stand for what they did
pub record Keeps (old new : Table) : Type 0 where
  pub types : KeepsTypes old.types new.types
  pub nodes : (id : NodeId) (x : Typed) → typed_at old id ≡ Some x → typed_at new id ≡ Some x

-- a node at a place of the table
pub record IsEntry (t : Table) (k : ℕ) (e : Entry) : Type 0 where
  pub parts : CanHold t e.node
  pub meaning : slice_get (typed_of t) k ≡ Some (made_in t e.node)
  pub type : Names t.types e.ty (typed_type (made_in t e.node))

-- each node of the table is made of what is in the table, and has its type beside it
abbrev pub IsTable : Table → Type 0
IsTable t = (k : ℕ) (e : Entry) → slice_get t.entries k ≡ Some e → IsEntry t k e

-- the numbers of void and of the integer types
abbrev pub of_kind : BasicTypes → IntKind → TypeId
of_kind b I8 = b.i8
of_kind b U8 = b.u8
of_kind b I16 = b.i16
of_kind b U16 = b.u16
of_kind b I32 = b.i32
of_kind b U32 = b.u32
of_kind b I64 = b.i64
of_kind b U64 = b.u64

pub record AreBasic (types : List Ty) (b : BasicTypes) : Type 0 where
  pub nothing : Names types b.void Void
  pub integers : (k : IntKind) → Names types (of_kind b k) (Integer k)

-- what holds of every table
pub record IsSound (t : Table) (b : BasicTypes) : Type 0 where
  pub entries : IsTable t
  pub basics : AreBasic t.types b
