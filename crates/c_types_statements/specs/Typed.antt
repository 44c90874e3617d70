-- What stands for statements, locals and bodies, whose values and types are in a table.
use Rattle.std.specs.Prelude.{◌≡◌, length, List, [], ◌∷◌, ◌++◌, Option, Some, None, Vec}
use Rattle.std.specs.List.{All}
use Rattle.std.specs.declared.alloc.Global.{Global}
use Rattle.c_types_model.specs.Types.{CType}
use Rattle.c_types_table.specs.declared.ids.TypeId.{TypeId}
use Rattle.c_types_table.specs.declared.ty.Ty.{Ty}
use Rattle.c_types_table.specs.Tables.{IsBelow, all_at, type_at, types_of}
use Rattle.c_types_rules.specs.TypedTree as typed
use Rattle.c_types_rules.specs.Statements as rules
use Rattle.c_types_rules.specs.Statements.{Declared}
use Rattle.c_types_rules.specs.Sources.{params_of, result_of}
use Rattle.c_types_nodes.specs.declared.ids.NodeId.{NodeId}
use Rattle.c_types_nodes.specs.Tables.{Names, Table}
use Rattle.c_types_program.specs.declared.function.Body.{Body}
use Rattle.c_types_program.specs.declared.statement.Statement.{Statement}
use Rattle.c_types_program.specs.Statements.{AllStatements, IsMaybeAt, IsStatement, maybe_at, statement_in, statements_in}
use Rattle.c_types_program.specs.Declarations.{IsBody, body_in, types_in}
use Rattle.c_types_environment.specs.States.{State}
use Rattle.c_types_statements.specs.declared.place.Surroundings.{Surroundings}
use Rattle.c_types_statements.specs.declared.signature.Signature.{Signature}

-- the number, if there is one, is that of the value, if there is one
pub record MaybeStands (t : Table) (v : typed.MaybeValue) (id : Option NodeId) : Type 0 where
  pub inside : IsMaybeAt t id
  pub is : maybe_at t id ≡ v

-- the statement stands for this one
pub record StatementStands (t : Table) (x : typed.Statement) (s : Statement) : Type 0 where
  pub inside : IsStatement t s
  pub is : statement_in t s ≡ x

-- the statements stand for these, one by one
pub record StatementsStand (t : Table) (xs : typed.Statements) (ss : List Statement) : Type 0 where
  pub inside : AllStatements t ss
  pub is : statements_in t ss ≡ xs

-- what a function does stands for this
pub record BodyStands (t : Table) (x : typed.Body) (b : Body) : Type 0 where
  pub inside : IsBody t (Some b)
  pub is : body_in t b ≡ x

-- where a statement stands
abbrev pub place_in : State → Surroundings → rules.Surroundings
place_in s p = record { result = type_at s.table.types p.result; in_loop = p.in_loop }

-- what is declared, with the locals that have these types
abbrev pub declared_in : State → List TypeId → Declared
declared_in s ids = record { env = s.env; locals = types_in s.table.types ids }

-- the list of what may be there
abbrev pub listed : {A : Type 0} → Option A → List A
listed None = []
listed (Some x) = x ∷ []

-- a statement, with the types of the locals up to its end
abbrev pub IsTyped : State → List TypeId → List CType × typed.Statement → Statement → Type 0
IsTyped s locals x y = (types_in s.table.types locals ≡ x.0) × StatementStands s.table x.1 y

-- statements, with the types of the locals up to their end
abbrev pub AreTyped : State → List TypeId → List CType × typed.Statements → Vec Statement Global → Type 0
AreTyped s locals x y = (types_in s.table.types locals ≡ x.0) × StatementsStand s.table x.1 y.items

-- the first value of a local, if it has one, with what is declared then
abbrev pub IsLocal : State → List TypeId → Declared × typed.Statements → Option Statement → Type 0
IsLocal s locals x y = (declared_in s locals ≡ x.0) × StatementsStand s.table x.1 (listed y)

-- statements, with what is declared after them
abbrev pub AreDeclaring : State → List TypeId → Declared × typed.Statements → Vec Statement Global → Type 0
AreDeclaring s locals x y = (declared_in s locals ≡ x.0) × StatementsStand s.table x.1 y.items

-- statements that were put after others
abbrev pub AreAdded : Table → typed.Statements → (old new : List Statement) → Type 0
AreAdded t xs old new = (more : List Statement) × (new ≡ old ++ more) × StatementsStand t xs more

-- the same, with what is declared after them
abbrev pub AddsDeclared : State → List TypeId → (old new : List Statement) → Declared × typed.Statements →
    Unit {0} → Type 0
AddsDeclared s locals old new x y = (declared_in s locals ≡ x.0) × AreAdded s.table x.1 old new

-- the types that a function of this type gives and takes
pub record IsSignature (types : List Ty) (c : CType) (s : Signature) : Type 0 where
  pub result : Names types s.result (result_of c)
  pub inside : All (IsBelow (length types)) s.params.items
  pub params : all_at (types_of types) s.params.items ≡ params_of c
