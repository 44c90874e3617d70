-- How answers agree with what the rules say.
use Rattle.std.specs.Prelude.{◌≡◌, ℕ, ◌<◌, Bool, true, false, ◌&&◌, ◌||◌, List, length, Option, Some, None, Result, Ok, Err}
use Rattle.c_types_model.specs.declared.extent.Extent.{Extent}
use Rattle.c_types_model.specs.Types.{CType, PointerTo}
use Rattle.c_types_table.specs.declared.ids.TypeId.{TypeId}
use Rattle.c_types_table.specs.declared.ty.Ty.{Ty}
use Rattle.c_types_table.specs.Tables.{type_at}
use Rattle.c_types_rules.specs.Checked.{Checked, Fine, Broken, keep, ◌>>◌}
use Rattle.c_types_rules.specs.TypeTests.{is_complete, is_object, is_void, same_type}
use Rattle.c_types_rules.specs.Operators.{size_in}
use Rattle.c_types_rules.specs.TypedTree.{Value, Typed, AValue}
use Rattle.c_types_nodes.specs.declared.ids.NodeId.{NodeId}
use Rattle.c_types_nodes.specs.Tables.{Table, typed_at}
use Rattle.c_types_operators.specs.declared.error.TypeError.{TypeError}
use Rattle.c_types_operators.specs.declared.error.TypeError.TheVariants.{Rule, Memory}

-- what is found is there, or the rule that is broken is named, with the offset of its node; of memory
-- nothing is said
abbrev pub Agrees : {A B : Type 0} → (A → B → Type 0) → Checked A → Result B TypeError → Type 0
Agrees is c (Err Memory) = Unit {0}
Agrees is (Fine x) (Ok y) = is x y
Agrees is (Broken from rule) (Err (Rule f r)) = (f ≡ from) × (r ≡ rule)
Agrees is _ _ = ⊥

-- there is nothing but the answer
abbrev pub IsNothing : Unit {0} → Unit {0} → Type 0
IsNothing x y = Unit {0}

-- the value stands at the number
abbrev pub IsAt : Table → Value → NodeId → Type 0
IsAt t v id = typed_at t id ≡ Some (AValue v)

-- the same of what is an object, a function or a value
abbrev pub StandsAt : Table → Typed → NodeId → Type 0
StandsAt t x id = typed_at t id ≡ Some x

abbrev pub is_pointer : CType → Bool
is_pointer (PointerTo t) = true
is_pointer _ = false

-- what a pointer points to; None of any other type
abbrev pub IsTarget : (types : List Ty) → CType → Option TypeId → Type 0
IsTarget types c (Some t) = (t.0 < length types) × (c ≡ PointerTo (type_at types t))
IsTarget types c None = is_pointer c ≡ false

-- the size of a complete object type; None of any other type
abbrev pub IsSizeOf : (structs : List Extent) → CType → Option ℕ → Type 0
IsSizeOf structs c (Some size) = (is_complete structs c ≡ true) × (size ≡ size_in structs c)
IsSizeOf structs c None = is_complete structs c ≡ false

-- what a node is, where it keeps the rule
abbrev pub if_kept : (from rule : ℕ) → Bool → Checked Value → Checked Value
if_kept from rule holds c = keep from rule holds >> c

-- a pointer to one of these may be assigned to a pointer to the other (C11 6.5.16.1)
abbrev pub are_compatible : CType → CType → Bool
are_compatible t u = same_type t u || ((is_void t && is_object u) || (is_object t && is_void u))
