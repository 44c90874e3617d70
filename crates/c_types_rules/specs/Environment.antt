-- What is declared at a place of a source.
use Rattle.std.specs.Prelude.{ℕ, suc, ◌==◌, Bool, true, false, not, if◌then◌else◌, List, [], ◌∷◌, map, is_some, codes, nat_eq, Option, Some, None}
use Rattle.r2_num.specs.declared.kinds.IntKind.{IntKind}
use Rattle.r2_num.specs.declared.kinds.IntKind.TheVariants.{I8, U8, I16, U16, I32, U32, I64, U64}
use Rattle.c_syntax.specs.declared.declaration.Base.{Base}
use Rattle.c_syntax.specs.declared.declaration.Base.TheVariants as bases
use Rattle.c_types_model.specs.Types.{CType, Void, Integer, StructOf, UndefinedStruct}
use Rattle.c_types_model.specs.declared.extent.Extent.{Extent}
use Rattle.std.specs.List.{starts_with}
use Rattle.c_builtins.specs.declared.builtin.Builtin.{Builtin}
use Rattle.c_builtins.specs.declared.builtin.Builtin.TheVariants.{Malloc, Free, Spawn, Join, Lock, Unlock, Print}
use Rattle.c_builtins.specs.Table.{name_of}
use Rattle.c_scopes.specs.Scopes.{Scope, same_name, innermost, meaning_in, declared}
use Rattle.c_types_rules.specs.Checked.{Checked, keep, ◌>>◌}

-- what a name means
pub data Meaning : Type 0 where
  FunctionNamed : (number : ℕ) → CType → Meaning
  GlobalNamed : (place : ℕ) → CType → Meaning
  LocalNamed : (place : ℕ) → CType → Meaning

-- the names and types of a struct's members, in order, and its size and alignment
pub record Struct : Type 0 where
  pub members : List (List ℕ × CType)
  pub extent : Extent

pub record Environment : Type 0 where
  -- the tags of all structs that the source defines, in its order
  pub tags : List (List ℕ)
  -- the structs defined so far
  pub structs : List Struct
  -- the names of the scopes, the innermost first
  pub scopes : List (Scope Meaning)

abbrev pub extents : Environment → List Extent
extents env = map (λ s. s.extent) env.structs

-- the place of a name in a list
abbrev pub place_from : ℕ → List ℕ → List (List ℕ) → Option ℕ
place_from at name [] = None
place_from at name (other ∷ names) = if same_name name other then Some at else place_from (suc at) name
    names

abbrev pub place_in : List ℕ → List (List ℕ) → Option ℕ
place_in name names = place_from 0 name names

abbrev pub struct_type : List ℕ → Option ℕ → CType
struct_type tag (Some number) = StructOf number
struct_type tag None = UndefinedStruct tag

-- an integer type of 1, 2, 4 or 8 bytes
abbrev pub kind_of_bytes : ℕ → Bool → IntKind
kind_of_bytes bytes true = if bytes == 1 then I8 else if bytes == 2 then I16 else if bytes == 4 then I32
    else I64
kind_of_bytes bytes false = if bytes == 1 then U8 else if bytes == 2 then U16 else if bytes == 4 then U32
    else U64

-- the type that the words of a declaration make (C11 6.7.2)
abbrev pub base_type : Environment → Base → CType
base_type env bases.Void = Void
base_type env (bases.Int bytes signed) = Integer (kind_of_bytes bytes signed)
base_type env (bases.Struct tag) = struct_type tag (place_in tag env.tags)

-- a further scope
abbrev pub inner : Environment → Environment
inner env = record env { scopes = [] ∷ env.scopes }

abbrev pub with_name : Environment → List ℕ → Meaning → Environment
with_name env name m = record env { scopes = declared name m env.scopes }

abbrev pub is_reserved : List ℕ → Bool
is_reserved name = starts_with nat_eq name (codes "r2_")

abbrev pub first_builtin : List ℕ → List Builtin → Option Builtin
first_builtin name [] = None
first_builtin name (b ∷ bs) = if same_name name (name_of b) then Some b else first_builtin name bs

-- the builtin of this name
abbrev pub builtin_of : List ℕ → Option Builtin
builtin_of name = first_builtin name (Malloc ∷ Free ∷ Spawn ∷ Join ∷ Lock ∷ Unlock ∷ Print ∷ [])

-- a name that is declared here: it doesn't begin with r2_, and no name of this scope is the same
abbrev pub declarable : Environment → (from : ℕ) → (name : List ℕ) → Checked (Unit {0})
declarable env from name = do
  keep from 19 (not (is_reserved name))
  keep from 1 (not (is_some (meaning_in name (innermost env.scopes))))
