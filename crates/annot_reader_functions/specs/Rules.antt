-- What the type rules say where annotations stand.
use Rattle.std.specs.Prelude.{◌≡◌, ◌<◌, ℕ, List, length, Option, Some, None, slice_get}
use Rattle.c_syntax.specs.declared.id.DeclId.{DeclId}
use Rattle.c_syntax.specs.Nodes.{Nodes}
use Rattle.c_syntax.specs.Syntax.{Decl}
use Rattle.c_syntax.specs.Stands.{StandsDecl}
use Rattle.c_syntax_laws.specs.Numbers.{FitsDecl}
use Rattle.c_types_model.specs.Types.{CType}
use Rattle.c_types_table.specs.declared.ids.TypeId.{TypeId}
use Rattle.c_types_table.specs.Tables.{at}
use Rattle.c_types_rules.specs.Checked.{Checked, Fine, ◌>>=◌}
use Rattle.c_types_rules.specs.Environment.{Environment, Meaning, FunctionNamed, extents}
use Rattle.c_types_rules.specs.Expressions.{declared_type}
use Rattle.c_types_rules.specs.Operators.{size_in}
use Rattle.c_types_rules.specs.TypedTree.{Typed}

-- what is declared at a place of a source, and the types and typed nodes that go by numbers
pub record Declared : Type 0 where
  pub env : Environment
  pub types : List CType
  pub nodes : List Typed

-- the number stands for the type
pub record Names (types : List CType) (id : TypeId) (t : CType) : Type 0 where
  pub inside : id.0 < length types
  pub is : at types id ≡ t

-- the second list has what the first has, at the same places
pub record Extends (old new : List Typed) : Type 0 where
  pub has : (k : ℕ) (x : Typed) → slice_get old k ≡ Some x → slice_get new k ≡ Some x

-- what is declared is as it was, and numbers stand for what they did
pub record Stays (old new : Declared) : Type 0 where
  pub env : new.env ≡ old.env
  pub types : (id : TypeId) (t : CType) → Names old.types id t → Names new.types id t
  pub nodes : Extends old.nodes new.nodes

-- the number stands for a declaration whose numbers types can represent
abbrev pub IsTypeName : Nodes → DeclId → Type 0
IsTypeName N i = (d : Decl) × StandsDecl N i d × FitsDecl d

-- the size of the type that a type name names
abbrev pub size_named : Environment → Decl → Checked ℕ
size_named env d = do
  t ← declared_type d env
  Fine (size_in (extents env) t)

-- the number of a function that a name means
abbrev pub function_in : Option Meaning → Option ℕ
function_in (Some (FunctionNamed number t)) = Some number
function_in _ = None
