-- The table of builtins: numbers, names, prototypes, and which are in the interface of every cut.
use Rattle.std.specs.Prelude.{◌≡◌, ℕ, Bool, true, false, List, [], ◌∷◌, ◌++◌, codes}
use Rattle.r2_num.specs.declared.kinds.IntKind.TheVariants.{I8, I32, U64}
use Rattle.c_types_model.specs.Types.{CType, CTypes, Void, Integer, PointerTo, FunctionOf, NoTypes, MoreTypes}
use Rattle.c_builtins.specs.declared.builtin.Builtin.{Builtin}
use Rattle.c_builtins.specs.declared.builtin.Builtin.TheVariants as builtins
use Rattle.c_builtins.specs.declared.builtin.BuiltinType.{BuiltinType}
use Rattle.c_builtins.specs.declared.builtin.BuiltinType.TheVariants as plain

abbrev pub number_of : Builtin → ℕ
number_of builtins.Malloc = 0
number_of builtins.Free = 1
number_of builtins.Spawn = 2
number_of builtins.Join = 3
number_of builtins.Lock = 4
number_of builtins.Unlock = 5
number_of builtins.Print = 6

abbrev pub name_of : Builtin → List ℕ
name_of builtins.Malloc = codes "r2_malloc"
name_of builtins.Free = codes "r2_free"
name_of builtins.Spawn = codes "r2_spawn"
name_of builtins.Join = codes "r2_join"
name_of builtins.Lock = codes "r2_lock"
name_of builtins.Unlock = codes "r2_unlock"
name_of builtins.Print = codes "r2_print"

-- a function of one parameter, and one of two
abbrev pub taking : CType → CType → CType
taking r p = FunctionOf r (MoreTypes p NoTypes)

abbrev pub taking_two : CType → CType → CType → CType
taking_two r p q = FunctionOf r (MoreTypes p (MoreTypes q NoTypes))

abbrev pub int : CType
int = Integer I32

abbrev pub unsigned_long : CType
unsigned_long = Integer U64

-- what a thread may run: int (void *)
abbrev pub thread_function : CType
thread_function = taking int (PointerTo Void)

-- the type that a builtin is declared with
abbrev pub prototype_of : Builtin → CType
prototype_of builtins.Malloc = taking (PointerTo Void) unsigned_long
prototype_of builtins.Free = taking Void (PointerTo Void)
prototype_of builtins.Spawn = taking_two int (PointerTo thread_function) (PointerTo Void)
prototype_of builtins.Join = taking int int
prototype_of builtins.Lock = taking int int
prototype_of builtins.Unlock = taking int int
prototype_of builtins.Print = taking_two Void (PointerTo (Integer I8)) unsigned_long

-- the parts of the type of a function
abbrev pub result_of : CType → CType
result_of (FunctionOf r ps) = r
result_of t = t

abbrev pub params_of : CType → CTypes
params_of (FunctionOf r ps) = ps
params_of t = NoTypes

-- in the interface of every cut: all but the two of memory
abbrev pub in_interface : Builtin → Bool
in_interface builtins.Malloc = false
in_interface builtins.Free = false
in_interface b = true

-- what the code's types of builtins stand for
abbrev pub ctype_of : BuiltinType → CType
ctype_of plain.Void = Void
ctype_of plain.Int = int
ctype_of plain.UnsignedLong = unsigned_long
ctype_of plain.VoidPointer = PointerTo Void
ctype_of plain.CharPointer = PointerTo (Integer I8)
ctype_of plain.ThreadFunction = PointerTo thread_function

abbrev pub ctypes_of : List BuiltinType → CTypes
ctypes_of [] = NoTypes
ctypes_of (t ∷ ts) = MoreTypes (ctype_of t) (ctypes_of ts)

-- a name that no source declares
abbrev pub IsReserved : List ℕ → Type 0
IsReserved name = (rest : List ℕ) × (name ≡ codes "r2_" ++ rest)

-- the number of the first function that a source declares
abbrev pub first_source_function : ℕ
first_source_function = 16
