-- The type that the specifiers of a declaration make (C11 6.7, 6.7.2), by its number.
use Rattle.std.specs.Prelude.{◌≡◌, ◌<◌, length, Option, Some, None}
use Rattle.c_syntax.specs.declared.declaration.Decl.{Decl}
use Rattle.c_syntax.specs.declared.id.DeclId.{DeclId}
use Rattle.c_syntax.specs.Nodes.{Nodes, decl_at}
use Rattle.c_types_table.specs.declared.ids.TypeId.{TypeId}
use Rattle.c_types_rules.specs.Environment.{base_type}
use Rattle.c_types_nodes.specs.Tables.{Names}
use Rattle.c_types_environment.specs.States.{State}
use Rattle.c_types_expressions.specs.declared.known.Specified.{Specified}

-- the number stands for the type that the specifiers of the declaration make
abbrev pub Specifies : State → Nodes → DeclId → TypeId → Type 0
Specifies s N i ty = (d : Decl) → decl_at N i ≡ Some d → Names s.table.types ty (base_type s.env d.base)

-- it is known of this declaration
abbrev pub IsOf : DeclId → Option Specified → Type 0
IsOf i None = ⊥
IsOf i (Some x) = x.decl ≡ i

-- so it is with what is known of a declaration
abbrev pub IsSpecified : State → Nodes → Option Specified → Type 0
IsSpecified s N None = Unit {0}
IsSpecified s N (Some x) = (x.decl.0 < length N.decls) × Specifies s N x.decl x.ty
