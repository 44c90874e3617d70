-- Typed sources, and the programs that they are.
use Rattle.std.proofs.Common.{◌≡◌, ℕ, suc, ◌≤◌, List, [], ◌∷◌, ◌++◌, length, map, refl, sym, ap, ◌∙◌, subst, arith, append_assoc}
use Rattle.std.specs.List.{All}
use Rattle.std.proofs.lemmas.List.Elements.{All-head, All-tail}
use Rattle.source_limits.specs.Limits.{greatest_object}
use Rattle.c_types_model.specs.Layouts.{capped, capped_extent}
use Rattle.c_types_model.specs.declared.extent.Extent.{Extent}
use Rattle.c_types_table.specs.declared.ty.Ty.{Ty}
use Rattle.c_types_table.specs.Tables.{type_at, types_of}
use Rattle.c_types_structs.specs.Members.{Definitions, MemberList, members_at, read_members}
use Rattle.c_types_rules.specs.Environment.{Struct, extents}
use Rattle.c_types_rules.specs.Sources.{Program}
use Rattle.c_types_nodes.specs.Tables.{Table}
use Rattle.c_types_program.specs.Declarations.{IsFunction, IsGlobal, declared, function_in, global_in, struct_in, structs_from}
use Rattle.c_types_program.specs.Programs.{IsProgram}
use Rattle.c_types_environment.specs.Reading.{members_by, struct_with, structs_by}
use Rattle.c_syntax.specs.Stands.{Holds}
use Rattle.c_syntax.specs.Syntax.{Decls}
use Rattle.c_types_source.specs.declared.parts.Parts.{Parts}
use Rattle.c_types_source.specs.Sources.{GoesOn, IsRight, IsSmall, IsTypedAs, IsTypedSource}
use Rattle.c_types_source.proofs.Grown.{are_functions_kept, are_globals_kept, functions_kept, globals_kept}

-- ---- structs as they are stored

-- a size that is too great for 64 bits counts as the greatest of them
abbrev as_stored : Struct → Struct
as_stored s = record s { extent = capped_extent s.extent }

as_they_are : (ss : List Struct) → All IsSmall ss → map as_stored ss ≡ ss
as_they_are [] h = refl
as_they_are (s ∷ ss) h =
    let small : s.extent.size ≤ greatest_object = All-head IsSmall s ss h in
    let size : capped s.extent.size ≡ s.extent.size = omega arith in
    ap (λ n. record { members = s.members; extent = record { size = n; align = s.extent.align } } ∷ map as_stored ss) size
    ∙ ap (λ xs. s ∷ xs) (as_they_are ss (All-tail IsSmall s ss h))

-- the members of a struct, by its number
its_members : (prefix : List MemberList) (ms : MemberList) (rest : List MemberList) → members_at (prefix ++ ms ∷ rest) (length prefix) ≡ ms
its_members [] ms rest = refl
its_members (x ∷ prefix) ms rest = its_members prefix ms rest

one_longer : (prefix : List MemberList) (ms : MemberList) → length (prefix ++ ms ∷ []) ≡ suc (length prefix)
one_longer [] ms = refl
one_longer (x ∷ prefix) ms = ap suc (one_longer prefix ms)

-- structs are as they are stored
stored_so : (types : List Ty) (prefix rest : List MemberList) (before : List Extent)
    → structs_from types (prefix ++ rest) (length prefix) (map capped_extent (map (λ s. s.extent) (structs_by (types_of types) before rest))) ≡ map as_stored (structs_by (types_of types) before rest)
stored_so types prefix [] before = refl
stored_so types prefix (ms ∷ rest) before =
    let s : Struct = struct_with before (members_by (types_of types) ms) in
    let ss : List Struct = structs_by (types_of types) (before ++ s.extent ∷ []) rest in
    let es : List Extent = map capped_extent (map (λ x. x.extent) ss) in
    let here : struct_in types (prefix ++ ms ∷ rest) (length prefix) (capped_extent s.extent) ≡ as_stored s = ap (λ l. record { members = read_members (type_at types) l; extent = capped_extent s.extent }) (its_members prefix ms rest) in
    let longer : prefix ++ ms ∷ rest ≡ (prefix ++ ms ∷ []) ++ rest = sym (append_assoc prefix (ms ∷ []) rest) in
    let later : structs_from types (prefix ++ ms ∷ rest) (suc (length prefix)) es ≡ map as_stored ss =
    ap (λ l. structs_from types l (suc (length prefix)) es) longer
    ∙ (ap (λ k. structs_from types ((prefix ++ ms ∷ []) ++ rest) k es) (sym (one_longer prefix ms)) ∙ stored_so types (prefix ++ ms ∷ []) rest (before ++ s.extent ∷ [])) in
    ap (λ x. x ∷ structs_from types (prefix ++ ms ∷ rest) (suc (length prefix)) es) here ∙ ap (λ xs. as_stored s ∷ xs) later

-- ---- programs

-- the typed program is that of the source
pub is_program : (tags : List (List ℕ)) (p : Program) (s : Parts) (table : Table) (structs : Definitions) → IsTypedAs tags p s → table ≡ s.env.table
    → structs_by (types_of s.env.table.types) [] structs.members ≡ s.env.env.structs → structs.extents ≡ map capped_extent (extents s.env.env)
    → IsProgram (declared table structs s.functions s.globals s.texts) p
is_program tags p s table structs h same read sizes =
    let types = s.env.table.types in
    let P : Table → Type 0 = λ t. IsProgram (declared t structs s.functions s.globals s.texts) p in
    let there : s.env.env.structs ≡ p.structs = ap (λ e. e.structs) h.env in
    let stored : structs_from types structs.members 0 structs.extents ≡ p.structs =
    ap (structs_from types structs.members 0) (sizes ∙ ap (λ ss. map capped_extent (map (λ x. x.extent) ss)) (sym read))
    ∙ (stored_so types [] structs.members [] ∙ (ap (map as_stored) (read ∙ there) ∙ as_they_are p.structs h.small)) in
    subst P (sym same)
    (ap (λ ss. record { structs = ss; functions = map (function_in s.env.table) s.functions; globals = map (global_in s.env.table) s.globals; names = p.names }) stored
    ∙ (ap (λ fs. record { structs = p.structs; functions = fs; globals = map (global_in s.env.table) s.globals; names = p.names }) h.functions
    ∙ ap (λ gs. record { structs = p.structs; functions = p.functions; globals = gs; names = p.names }) h.globals))

-- ---- sources

-- they stay typed while their table grows
pub stays_typed : (s t : Parts) (tags : List (List ℕ)) (p : Program) → IsTypedAs tags p s → GoesOn s t → IsTypedAs tags p t
stays_typed s t tags p h k = record {
  env = k.env ∙ h.env;
  functions = ap (map (function_in t.env.table)) k.functions ∙ (functions_kept s.env.table t.env.table k.numbers s.functions h.are_functions ∙ h.functions);
  globals = ap (map (global_in t.env.table)) k.globals ∙ (globals_kept s.env.table t.env.table k.numbers s.globals h.are_globals ∙ h.globals);
  are_functions = subst (All (IsFunction t.env.table)) (sym k.functions) (are_functions_kept s.env.table t.env.table k.numbers s.functions h.are_functions);
  are_globals = subst (All (IsGlobal t.env.table)) (sym k.globals) (are_globals_kept s.env.table t.env.table k.numbers s.globals h.are_globals);
  small = h.small;
}

-- and stay those of the same source
pub goes_on : (s t : Parts) (ds : Decls) (p : Program) → IsTypedSource ds p s → GoesOn s t → IsTypedSource ds p t
goes_on s t ds p h k = record {
  holds = subst (λ N. Holds N ds) (sym k.tree) h.holds;
  typed = h.typed;
  is = stays_typed s t _ p h.is k;
}

pub stays_right : (s t : Parts) → IsRight s → GoesOn s t → IsRight t
stays_right s t (ds, p, f, h) k = (ds, p, f, goes_on s t ds p h k)
