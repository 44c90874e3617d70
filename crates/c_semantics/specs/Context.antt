-- What the meaning of code hangs on: the source's declarations, and where its objects lie.
use Rattle.std.specs.Prelude.{ℕ, suc, ◌-◌, ltb, ◌==◌, Bool, false, if◌then◌else◌, List, [], ◌∷◌, ◌++◌, length, map, replicate, Option, Some, None, slice_get}
use Rattle.r2_num.specs.declared.kinds.IntKind.{IntKind}
use Rattle.r2_num.specs.declared.kinds.IntKind.TheVariants.{U64}
use Rattle.marks.specs.Places.{builtin_count}
use Rattle.memory_map.specs.declared.placed.Place.{Place}
use Rattle.memory_map.specs.declared.placed.Placed.{Placed}
use Rattle.c_types_model.specs.Types.{CType, CTypes, Void, Integer, PointerTo, StructOf, NoTypes, MoreTypes}
use Rattle.c_types_model.specs.Layouts.{offsets_from}
use Rattle.c_types_model.specs.declared.extent.Extent.{Extent}
use Rattle.c_builtins.specs.declared.builtin.Builtin.{Builtin}
use Rattle.c_builtins.specs.declared.builtin.Builtin.TheVariants.{Malloc, Free, Spawn, Join, Lock, Unlock, Print}
use Rattle.c_builtins.specs.Table.{number_of, prototype_of}
use Rattle.c_code.specs.declared.shape.Shape.{Shape}
use Rattle.c_code.specs.declared.shape.Shape.TheVariants as shapes
use Rattle.c_code.specs.Frames.{params_bytes}
use Rattle.c_types_rules.specs.TypeTests.{same_type}
use Rattle.c_types_rules.specs.Operators.{size_in}
use Rattle.c_types_rules.specs.TypedTree as typed
use Rattle.c_types_rules.specs.Environment.{Struct}
use Rattle.c_types_rules.specs.Sources.{Function, Program, extents_in, params_of, result_of}
use Rattle.c_types_rules.specs.Limits.{frame_size}

-- a typed source, the offsets of its strings in order, and where globals and strings lie
pub record Source : Type 0 where
  pub program : Program
  pub texts : List ℕ
  pub placed : Placed

abbrev pub address_of : Option Place → ℕ
address_of (Some p) = p.addr
address_of None = 0

abbrev pub global_address : Source → ℕ → ℕ
global_address s place = address_of (slice_get s.placed.globals place)

-- the place of an offset in a list
abbrev pub order_of : ℕ → List ℕ → ℕ
order_of from [] = 0
order_of from (x ∷ xs) = if from == x then 0 else suc (order_of from xs)

-- where the string that begins at an offset lies
abbrev pub text_address : Source → (from : ℕ) → ℕ
text_address s from = address_of (slice_get s.placed.strings (order_of from s.texts))

abbrev pub structs_of : Source → List Extent
structs_of s = map (λ x. x.extent) s.program.structs

abbrev pub size_of : Source → CType → ℕ
size_of s t = size_in (structs_of s) t

abbrev number_or : Option ℕ → ℕ
number_or (Some n) = n
number_or None = 0

abbrev types_of : List (List ℕ × CType) → List CType
types_of [] = []
types_of ((name, t) ∷ members) = t ∷ types_of members

abbrev members_of : Option Struct → List CType
members_of (Some x) = types_of x.members
members_of None = []

-- how far after the beginning of a struct its member lies
abbrev pub member_offset : Source → CType → (number : ℕ) → ℕ
member_offset s (StructOf k) number = number_or
    (slice_get (offsets_from 0 (extents_in s.program (members_of (slice_get s.program.structs k)))) number)
member_offset s t number = 0

-- ---- types of values

-- the type of a parameter or result, as far as values tell it
abbrev pub shape_of : CType → Shape
shape_of (Integer k) = shapes.Int k
shape_of (PointerTo t) = shapes.Pointer
shape_of t = shapes.Void

abbrev pub shapes_of : CTypes → List Shape
shapes_of NoTypes = []
shapes_of (MoreTypes t ts) = shape_of t ∷ shapes_of ts

-- the kind of a scalar's value; a pointer is a number of 64 bits
abbrev pub kind_of : CType → IntKind
kind_of (Integer k) = k
kind_of t = U64

-- ---- functions

abbrev pub source_function : Source → ℕ → Option Function
source_function s f = if ltb f builtin_count then None else slice_get s.program.functions (f - builtin_count)

abbrev first_numbered : ℕ → List Builtin → Option Builtin
first_numbered n [] = None
first_numbered n (b ∷ bs) = if n == number_of b then Some b else first_numbered n bs

abbrev pub builtin_of : ℕ → Option Builtin
builtin_of f = first_numbered f (Malloc ∷ Free ∷ Spawn ∷ Join ∷ Lock ∷ Unlock ∷ Print ∷ [])

abbrev prototype_or : Option Builtin → CType
prototype_or (Some b) = prototype_of b
prototype_or None = Void

-- that of a function of the source, or of a builtin
abbrev pub type_or : Option Function → Option Builtin → CType
type_or (Some f) b = f.type
type_or None b = prototype_or b

-- the type of the function of a number
abbrev pub type_of : Source → ℕ → CType
type_of s f = type_or (source_function s f) (builtin_of f)

abbrev is_typed : Option Function → CType → Bool
is_typed (Some f) t = same_type f.type t
is_typed None t = false

-- the number is that of a function of the source, which has this type
abbrev pub is_function_of : Source → CType → ℕ → Bool
is_function_of s t f = is_typed (source_function s f) t

abbrev pub result_shape : Source → ℕ → Shape
result_shape s f = shape_of (result_of (type_of s f))

abbrev pub param_shapes : Source → ℕ → List Shape
param_shapes s f = shapes_of (params_of (type_of s f))

-- what a function does
abbrev pub body_or : Option Function → Option typed.Body
body_or (Some f) = f.body
body_or None = None

-- what a function does, where the source says it
abbrev pub body_of : Source → ℕ → Option typed.Body
body_of s f = body_or (source_function s f)

-- how far after the beginning of a frame its locals lie
abbrev pub local_offsets : Source → List CType → List ℕ
local_offsets s ts = offsets_from 0 (extents_in s.program ts)

abbrev pub frame_with : ℕ → List ℕ → List ℕ
frame_with size params = params ++ replicate (size - length params) 0

abbrev pub frame_of_body : Source → ℕ → Option typed.Body → List ℕ → List ℕ
frame_of_body s f (Some b) args = frame_with (frame_size s.program b.locals)
    (params_bytes 0 (param_shapes s f) args)
frame_of_body s f None args = []

-- the bytes of a new frame: the parameters, and zeros
abbrev pub frame_of : Source → ℕ → (args : List ℕ) → List ℕ
frame_of s f args = frame_of_body s f (body_of s f) args

abbrev is_true : Option Bool → Bool
is_true (Some b) = b
is_true None = false

-- the function is in the interface
abbrev pub is_face : Source → ℕ → Bool
is_face s f = is_true (slice_get s.placed.faces f)
