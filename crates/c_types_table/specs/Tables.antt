-- Tables of types, each after its parts, and the types that their numbers stand for.
use Rattle.std.specs.Prelude.{◌≡◌, ℕ, ◌<◌, List, [], ◌∷◌, ◌++◌, Some, slice_get, slice_index_or}
use Rattle.std.specs.List.{All}
use Rattle.c_types_model.specs.Types.{CType, CTypes, Integer, PointerTo, ArrayOf, StructOf, UndefinedStruct, FunctionOf, NoTypes, MoreTypes}
use Rattle.c_types_model.specs.Types as types
use Rattle.c_types_table.specs.declared.ids.TypeId.{TypeId}
use Rattle.c_types_table.specs.declared.ty.Ty.{Ty}
use Rattle.c_types_table.specs.declared.ty.Ty.TheVariants as nodes

-- the number is below n
abbrev pub IsBelow : ℕ → TypeId → Type 0
IsBelow n t = t.0 < n

-- the parts of a type are among the first n of a table
abbrev pub IsMadeOf : ℕ → Ty → Type 0
IsMadeOf n nodes.Void = Unit {0}
IsMadeOf n (nodes.Int k) = Unit {0}
IsMadeOf n (nodes.Pointer t) = IsBelow n t
IsMadeOf n (nodes.Array t l) = IsBelow n t
IsMadeOf n (nodes.Struct s) = Unit {0}
IsMadeOf n (nodes.UndefinedStruct tag) = Unit {0}
IsMadeOf n (nodes.Function r ps) = IsBelow n r × All (IsBelow n) ps

-- each type of the table stands after its parts
abbrev pub IsTable : List Ty → Type 0
IsTable ns = (k : ℕ) (t : Ty) → slice_get ns k ≡ Some t → IsMadeOf k t

-- no type stands twice
abbrev pub AreDistinct : List Ty → Type 0
AreDistinct ns = (i j : ℕ) (t : Ty) → slice_get ns i ≡ Some t → slice_get ns j ≡ Some t → i ≡ j

-- the types of these numbers, where the numbers stand for `ts`
abbrev pub at : List CType → TypeId → CType
at ts t = slice_index_or ts t.0 types.Void

abbrev pub all_at : List CType → List TypeId → CTypes
all_at ts [] = NoTypes
all_at ts (p ∷ ps) = MoreTypes (at ts p) (all_at ts ps)

-- what a type of the table stands for, where the numbers stand for `ts`
abbrev pub made : List CType → Ty → CType
made ts nodes.Void = types.Void
made ts (nodes.Int k) = Integer k
made ts (nodes.Pointer t) = PointerTo (at ts t)
made ts (nodes.Array t l) = ArrayOf l (at ts t)
made ts (nodes.Struct s) = StructOf s.0
made ts (nodes.UndefinedStruct tag) = UndefinedStruct tag
made ts (nodes.Function r ps) = FunctionOf (at ts r) (all_at ts ps)

-- what the numbers of a table stand for, where those before stand for `ts`
abbrev pub types_after : List CType → List Ty → List CType
types_after ts [] = ts
types_after ts (n ∷ ns) = types_after (ts ++ made ts n ∷ []) ns

-- what the numbers of a table stand for
abbrev pub types_of : List Ty → List CType
types_of ns = types_after [] ns

-- the type of a number
abbrev pub type_at : List Ty → TypeId → CType
type_at ns t = at (types_of ns) t
