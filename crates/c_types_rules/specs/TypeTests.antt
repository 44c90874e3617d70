-- Which types are equal, and of which sort a type is (C11 6.2.5).
use Rattle.std.specs.Prelude.{Bool, true, false, ◌&&◌, ◌==◌, List, is_some, Option, Some, None}
use Rattle.r2_num.specs.declared.kinds.IntKind.{IntKind}
use Rattle.r2_num.specs.declared.kinds.IntKind.TheVariants.{I8, U8, I16, U16, I32, U32, I64, U64}
use Rattle.c_types_model.specs.Types.{CType, CTypes, Void, Integer, PointerTo, ArrayOf, StructOf, UndefinedStruct, FunctionOf, NoTypes, MoreTypes}
use Rattle.c_types_model.specs.Layouts.{extent_of}
use Rattle.c_types_model.specs.declared.extent.Extent.{Extent}
use Rattle.c_scopes.specs.Scopes.{same_name}

abbrev pub same_kind : IntKind → IntKind → Bool
same_kind I8 I8 = true
same_kind U8 U8 = true
same_kind I16 I16 = true
same_kind U16 U16 = true
same_kind I32 I32 = true
same_kind U32 U32 = true
same_kind I64 I64 = true
same_kind U64 U64 = true
same_kind _ _ = false

-- whether two types are equal
abbrev mutual
  pub same_type : CType → CType → Bool
  same_type Void Void = true
  same_type (Integer j) (Integer k) = same_kind j k
  same_type (PointerTo t) (PointerTo u) = same_type t u
  same_type (ArrayOf m t) (ArrayOf n u) = (m == n) && same_type t u
  same_type (StructOf m) (StructOf n) = m == n
  same_type (UndefinedStruct a) (UndefinedStruct b) = same_name a b
  same_type (FunctionOf r ps) (FunctionOf s qs) = same_type r s && same_types ps qs
  same_type _ _ = false

  pub same_types : CTypes → CTypes → Bool
  same_types NoTypes NoTypes = true
  same_types (MoreTypes t ts) (MoreTypes u us) = same_type t u && same_types ts us
  same_types _ _ = false

abbrev pub is_void : CType → Bool
is_void Void = true
is_void _ = false

abbrev pub is_function : CType → Bool
is_function (FunctionOf r ps) = true
is_function _ = false

abbrev pub is_array : CType → Bool
is_array (ArrayOf n t) = true
is_array _ = false

-- C11 6.2.5, 21, without the types that this language hasn't
abbrev pub is_scalar : CType → Bool
is_scalar (Integer k) = true
is_scalar (PointerTo t) = true
is_scalar _ = false

abbrev pub is_integer : CType → Bool
is_integer (Integer k) = true
is_integer _ = false

-- a type of an object, complete or not, other than void
abbrev pub is_object : CType → Bool
is_object Void = false
is_object (FunctionOf r ps) = false
is_object _ = true

-- what a function may give: nothing, an integer or a pointer
abbrev pub is_result : CType → Bool
is_result Void = true
is_result t = is_scalar t

-- the kind of an integer type
abbrev pub kind_in : CType → Option IntKind
kind_in (Integer k) = Some k
kind_in _ = None

-- a complete object type, where the structs defined so far have these sizes
abbrev pub is_complete : (structs : List Extent) → CType → Bool
is_complete structs t = is_some (extent_of structs t)
