-- What the declarations of a typed program stand for, whose values and types are in a table.
use Rattle.std.specs.Prelude.{ℕ, suc, List, [], ◌∷◌, length, map, Option, Some, None}
use Rattle.std.specs.Option.{option_map}
use Rattle.std.specs.List.{All}
use Rattle.c_types_model.specs.Types.{CType}
use Rattle.c_types_model.specs.declared.extent.Extent.{Extent}
use Rattle.c_types_table.specs.declared.ids.TypeId.{TypeId}
use Rattle.c_types_table.specs.declared.ty.Ty.{Ty}
use Rattle.c_types_table.specs.Tables.{type_at, IsBelow}
use Rattle.c_types_structs.specs.Members.{Definitions, MemberList, members_at, read_members}
use Rattle.c_types_rules.specs.TypedTree as tree
use Rattle.c_types_rules.specs.Environment as environment
use Rattle.c_types_rules.specs.Initials as initials
use Rattle.c_types_rules.specs.Sources as sources
use Rattle.c_types_nodes.specs.Tables.{Table}
use Rattle.c_types_nodes.specs.Lists.{AreNodes, nodes_at}
use Rattle.c_types_program.specs.declared.function.Body.{Body}
use Rattle.c_types_program.specs.declared.function.Function.{Function}
use Rattle.c_types_program.specs.declared.global.Known.{Known}
use Rattle.c_types_program.specs.declared.global.Known.TheVariants as knowns
use Rattle.c_types_program.specs.declared.global.Initial.{Initial, Row_of-Initial, end_of-Initial, more_of-Initial}
use Rattle.c_types_program.specs.declared.global.Initial as given
use Rattle.c_types_program.specs.declared.global.Global.{Global}
use Rattle.c_types_program.specs.declared.text.TextLiteral.{TextLiteral}
use Rattle.c_types_program.specs.Statements.{IsStatement, statement_in}

-- ---- values of globals

abbrev pub known_in : Known → initials.Known
known_in (knowns.Number n) = initials.Number n
known_in (knowns.AddressOfText from) = initials.AddressOfText from
known_in (knowns.AddressOfGlobal place) = initials.AddressOfGlobal place
known_in (knowns.AddressOfFunction from number) = initials.AddressOfFunction from number

abbrev mutual
  -- what the value of a global stands for
  pub initial_in : Initial → initials.Initial
  initial_in (given.Scalar k) = initials.Scalar (known_in k)
  initial_in (given.Bytes bytes) = initials.Bytes bytes
  initial_in (given.Listed' shape xs) = initials.Listed (row_in xs)

  -- what the values in a vector stand for, in their order
  pub row_in : {m : _} → Row_of-Initial m → initials.Initials
  row_in end_of-Initial = initials.NoInitials
  row_in (more_of-Initial x xs) = initials.MoreInitials (initial_in x) (row_in xs)

-- the same of a list
abbrev pub initials_in : List Initial → initials.Initials
initials_in [] = initials.NoInitials
initials_in (x ∷ xs) = initials.MoreInitials (initial_in x) (initials_in xs)

-- ---- declarations

-- what the numbers of types stand for
abbrev pub types_in : List Ty → List TypeId → List CType
types_in types ids = map (type_at types) ids

abbrev pub body_in : Table → Body → tree.Body
body_in t b = record {
  from = b.from;
  locals = types_in t.types b.locals;
  statements =
      statement_in t b.statements;
  in_params =
      nodes_at t b.in_params;
  unevaluated =
      nodes_at t b.unevaluated;
}

abbrev pub function_in : Table → Function → sources.Function
function_in t f = record {
  name = f.name;
  type = type_at t.types f.ty;
  body =
      option_map (body_in t) f.body;
}

abbrev pub global_in : Table → Global → sources.Global
global_in t g = record {
  name = g.name;
  type = type_at t.types g.ty;
  value =
      option_map initial_in g.value;
  unevaluated =
      nodes_at t g.unevaluated;
}

-- the struct of a number, whose size and alignment these are
abbrev pub struct_in : List Ty → List MemberList → (number : ℕ) → Extent → environment.Struct
struct_in types mss number e = record {
  members = read_members (type_at types) (members_at mss number);
  extent = e;
}

-- the structs from a number on, whose sizes and alignments these are
abbrev pub structs_from : List Ty → List MemberList → (number : ℕ) → List Extent → List environment.Struct
structs_from types mss number [] = []
structs_from types mss number (e ∷ es) = struct_in types mss number e ∷
    structs_from types mss (suc number) es

abbrev pub structs_in : List Ty → Definitions → List environment.Struct
structs_in types ds = structs_from types ds.members 0 ds.extents

-- ---- all numbers are those of the table

abbrev pub IsBody : Table → Option Body → Type 0
IsBody t None = Unit {0}
IsBody t (Some b) = All (IsBelow (length t.types)) b.locals × IsStatement t b.statements ×
    AreNodes t b.in_params × AreNodes t b.unevaluated

pub record IsFunction (t : Table) (f : Function) : Type 0 where
  pub type : IsBelow (length t.types) f.ty
  pub body : IsBody t f.body

pub record IsGlobal (t : Table) (g : Global) : Type 0 where
  pub type : IsBelow (length t.types) g.ty
  pub unevaluated : AreNodes t g.unevaluated

-- the type of a member is among the first n of a table
abbrev pub IsMemberBelow : ℕ → List ℕ × TypeId → Type 0
IsMemberBelow n m = IsBelow n m.1

-- what a program declares, with its values and types in a table
pub record Declared : Type 0 where
  pub table : Table
  pub structs : Definitions
  pub functions : List Function
  pub globals : List Global
  pub texts : List TextLiteral

abbrev pub declared : Table → Definitions → List Function → List Global → List TextLiteral → Declared
declared t ss fs gs texts = record { table = t; structs = ss; functions = fs; globals = gs; texts = texts }

-- all numbers in it are those of values and types of the table
pub record IsSound (p : Declared) : Type 0 where
  pub members : All (All (IsMemberBelow (length p.table.types))) p.structs.members
  pub functions : All (IsFunction p.table) p.functions
  pub globals : All (IsGlobal p.table) p.globals
