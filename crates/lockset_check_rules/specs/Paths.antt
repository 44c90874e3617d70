-- The mention of a global with which a path of subscripts and members begins.
use Rattle.std.specs.Prelude.{Bool, false, if◌then◌else◌, Option, Some, None}
use Rattle.c_types_model.specs.Types.{CType, PointerTo, ArrayOf}
use Rattle.c_types_rules.specs.TypeTests.{same_type}
use Rattle.c_types_rules.specs.TypedTree.{Object, Value, PointerPlus, PlusPointer, PointerMinus, GlobalObject, LocalObject, TextObject, Pointed, Element, MemberOf, Constant, FunctionAddress, ReadOf, AddressOf, Convert, Negate, Complement, Arithmetic, PointerSum, PointerDifference, PointerComparison, Not, Both, Either, Choice, Sequence, Assigned, Changed, Moved, Stepped, CallOf, object_type}
use Rattle.lockset_check_rules.specs.declared.mention.Mention.{Mention}

-- the type is that of a pointer to elements of an array of the first type: such a pointer stands for the array
-- (C11 6.3.2.1, 3)
abbrev pub decayed : CType → CType → Bool
decayed (ArrayOf n t) (PointerTo u) = same_type t u
decayed t u = false

abbrev mutual
  -- the global that a path of subscripts of arrays, in either order, and members begins with, where it is named
  pub root : Object → Option Mention
  root (GlobalObject from place t) = Some (record { from = from; place = place })
  root (LocalObject place t) = None
  root (TextObject from length) = None
  root (Pointed v t) = None
  root (Element PointerPlus p i t) = array_root p
  root (Element PlusPointer p i t) = array_root p
  root (Element PointerMinus p i t) = None
  root (MemberOf o number t) = root o

  -- the same of an array that stands for the address of its first element
  pub array_root : Value → Option Mention
  array_root (AddressOf o t) = if decayed (object_type o) t then root o else None
  array_root (Constant k n) = None
  array_root (FunctionAddress from number t) = None
  array_root (ReadOf o) = None
  array_root (Convert t v) = None
  array_root (Negate k v) = None
  array_root (Complement k v) = None
  array_root (Arithmetic op k a b) = None
  array_root (PointerSum s p i size) = None
  array_root (PointerDifference a b size) = None
  array_root (PointerComparison op a b) = None
  array_root (Not v) = None
  array_root (Both a b) = None
  array_root (Either a b) = None
  array_root (Choice c a b) = None
  array_root (Sequence a b) = None
  array_root (Assigned o v) = None
  array_root (Changed o op k v) = None
  array_root (Moved o w i size) = None
  array_root (Stepped o w g size) = None
  array_root (CallOf f vs t) = None

-- the global, where the object is a name alone
abbrev pub name_alone : Object → Option Mention
name_alone (GlobalObject from place t) = Some (record { from = from; place = place })
name_alone (LocalObject place t) = None
name_alone (TextObject from length) = None
name_alone (Pointed v t) = None
name_alone (Element s p i t) = None
name_alone (MemberOf o number t) = None

-- the global to which a pointer is made: where an array stands for its first element that is a name alone, and
-- isn't subscripted; under `&` what the path begins with
abbrev pub pointed_to : (subscripted : Bool) → Object → CType → Option Mention
pointed_to subscripted o t =
    if decayed (object_type o) t then (if subscripted then None else name_alone o)
    else root o
