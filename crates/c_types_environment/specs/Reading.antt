-- What is declared, where types go by numbers that stand for `ts`.
use Rattle.std.specs.Prelude.{ℕ, List, [], ◌∷◌, ◌++◌, map, Option}
use Rattle.std.specs.Option.{option_map}
use Rattle.c_types_model.specs.Types.{CType}
use Rattle.c_types_model.specs.Layouts.{struct_of}
use Rattle.c_types_model.specs.declared.extent.Extent.{Extent}
use Rattle.c_types_table.specs.declared.ids.TypeId.{TypeId}
use Rattle.c_types_table.specs.Tables.{IsBelow, at}
use Rattle.c_scopes.specs.Scopes.{Scope}
use Rattle.c_types_rules.specs.Environment as typing
use Rattle.c_types_rules.specs.Environment.{Struct, FunctionNamed, GlobalNamed, LocalNamed}
use Rattle.c_types_rules.specs.Sources.{extents_of}
use Rattle.c_types_structs.specs.Members.{MemberList, read_members}
use Rattle.c_types_environment.specs.declared.meaning.Meaning.{Meaning}
use Rattle.c_types_environment.specs.declared.meaning.Meaning.TheVariants as meanings

abbrev pub meaning_by : List CType → Meaning → typing.Meaning
meaning_by ts (meanings.Function number t) = FunctionNamed number (at ts t)
meaning_by ts (meanings.Global place t) = GlobalNamed place (at ts t)
meaning_by ts (meanings.Local place t) = LocalNamed place (at ts t)

abbrev pub maybe_by : List CType → Option Meaning → Option typing.Meaning
maybe_by ts m = option_map (meaning_by ts) m

abbrev pub scope_by : List CType → Scope Meaning → Scope typing.Meaning
scope_by ts scope = map (λ p. (p.0, meaning_by ts p.1)) scope

abbrev pub scopes_by : List CType → List (Scope Meaning) → List (Scope typing.Meaning)
scopes_by ts scopes = map (scope_by ts) scopes

abbrev pub members_by : List CType → MemberList → List (List ℕ × CType)
members_by ts ms = read_members (at ts) ms

-- a struct with these members, where those before it have these sizes and alignments (C11 6.7.2.1)
abbrev pub struct_with : (before : List Extent) → List (List ℕ × CType) → Struct
struct_with before ms = record { members = ms; extent = struct_of (extents_of before ms) }

-- structs, each defined after those before it
abbrev pub structs_by : List CType → (before : List Extent) → List MemberList → List Struct
structs_by ts before [] = []
structs_by ts before (ms ∷ mss) =
    let s = struct_with before (members_by ts ms) in
    s ∷ structs_by ts (before ++ s.extent ∷ []) mss

-- the number of a meaning's type
abbrev pub type_in : Meaning → TypeId
type_in (meanings.Function number t) = t
type_in (meanings.Global place t) = t
type_in (meanings.Local place t) = t

-- its type is among the first n
abbrev pub IsMeaningBelow : ℕ → Meaning → Type 0
IsMeaningBelow n m = IsBelow n (type_in m)

abbrev pub IsNameBelow : ℕ → List ℕ × Meaning → Type 0
IsNameBelow n p = IsMeaningBelow n p.1

abbrev pub IsMemberBelow : ℕ → List ℕ × TypeId → Type 0
IsMemberBelow n m = IsBelow n m.1
