-- Members of a struct that are read one after another, and where they lie.
use Rattle.std.proofs.Common.{◌≡◌, ℕ, zero, suc, ◌+◌, IsTrue, List, [], ◌∷◌, ◌++◌, map, take, Option, Some, None, refl, sym, ap, ◌∙◌, subst, arith}
use Rattle.std.specs.Prelude.{is_some, slice_get, unwrap_or}
use Rattle.std.specs.Option.{option_map}
use Rattle.std.specs.List.{All}
use Rattle.std.proofs.lemmas.Option.{slice_get-map}
use Rattle.std.proofs.lemmas.List.Elements.{All-nil, All-head, All-tail}
use Rattle.c_types_model.specs.declared.extent.Extent.{Extent}
use Rattle.c_types_model.specs.Types.{CType, StructOf}
use Rattle.c_types_table.specs.declared.ids.TypeId.{TypeId}
use Rattle.c_types_table.specs.declared.ty.Ty.{Ty}
use Rattle.c_types_table.specs.Tables.{IsBelow, type_at}
use Rattle.c_types_structs.specs.Members.{Definitions, MemberList, members_at, type_of_member}
use Rattle.c_types_rules.specs.Environment.{Struct}
use Rattle.c_types_rules.specs.Sources.{Program}
use Rattle.c_types_rules.specs.TypeTests.{is_complete}
use Rattle.c_types_program.specs.Declarations.{Declared, IsMemberBelow, structs_in, types_in}
use Rattle.c_types_program.specs.Programs.{program_in}
use Rattle.c_lower_layout.specs.Indexed.{all_offsets, extent_in, extents_at, member_ids, offsets_at, offsets_by, offsets_in, offsets_of as all_declared}
use Rattle.c_lower_layout.proofs.Placing.{extents_declared, member_more, offsets_declared}
use Rattle.c_lower_layout.specs.Offsets.{laid, offsets_of}

-- ---- numbers of types

pub struct_inside : (n k : ℕ) (mss : List MemberList) → All (All (IsMemberBelow n)) mss → All (IsMemberBelow n) (members_at mss k)
struct_inside n k [] h = All-nil (IsMemberBelow n)
struct_inside n zero (ms ∷ mss) h = All-head (All (IsMemberBelow n)) ms mss h
struct_inside n (suc k) (ms ∷ mss) h = struct_inside n k mss (All-tail (All (IsMemberBelow n)) ms mss h)

pub member_inside : (n : ℕ) (ms : MemberList) (k : ℕ) (t : TypeId) → All (IsMemberBelow n) ms → Some t ≡ type_of_member ms k → IsBelow n t
member_inside n [] k t h e = absurd cc
member_inside n (m ∷ ms) zero t h e = subst (IsBelow n) (ap (λ o. unwrap_or o m.1) (sym e)) (All-head (IsMemberBelow n) m ms h)
member_inside n (m ∷ ms) (suc k) t h e = member_inside n ms k t (All-tail (IsMemberBelow n) m ms h) e

-- the members of the list of these types, as they are laid
abbrev pub laid_at : List Ty → List Extent → List TypeId → List Extent
laid_at types structs ids = map laid (extents_at structs (types_in types ids))

laid_append : (types : List Ty) (structs : List Extent) (ids : List TypeId) (t : TypeId) → laid_at types structs (ids ++ t ∷ []) ≡ laid_at types structs ids ++ laid (extent_in structs (type_at types t)) ∷ []
laid_append types structs [] t = refl
laid_append types structs (id ∷ ids) t = ap (λ es. laid (extent_in structs (type_at types id)) ∷ es) (laid_append types structs ids t)

-- one more member
pub laid_more : (types : List Ty) (structs : List Extent) (ms : MemberList) (n : ℕ) (t : TypeId) → Some t ≡ type_of_member ms n
    → laid_at types structs (take (suc n) (member_ids ms)) ≡ laid_at types structs (take n (member_ids ms)) ++ laid (extent_in structs (type_at types t)) ∷ []
laid_more types structs ms n t h = ap (laid_at types structs) (member_more ms n t h).1 ∙ laid_append types structs (take n (member_ids ms)) t

-- ---- offsets of the struct of a number

by_number : (types : List Ty) (ds : Definitions) (k from : ℕ) (es : List Extent) → IsTrue (is_some (slice_get es k)) → slice_get (offsets_by types ds from es) k ≡ Some (offsets_at types ds (from + k))
by_number types ds k from [] h = absurd cc
by_number types ds zero from (e ∷ es) h = let same : from ≡ from + 0 = omega arith in ap (λ n. Some (offsets_at types ds n)) same
by_number types ds (suc k) from (e ∷ es) h = let same : suc from + k ≡ from + suc k = omega arith in by_number types ds k (suc from) es h ∙ ap (λ n. Some (offsets_at types ds n)) same

looked : (p : Program) (k : ℕ) → unwrap_or (slice_get (all_offsets p) k) [] ≡ offsets_of p (StructOf k)
looked p k = ap (λ o. unwrap_or o []) (slice_get-map (offsets_in p) p.structs k) ∙ read (slice_get p.structs k)
  where
    read : (o : Option Struct) → unwrap_or (option_map (offsets_in p) o) [] ≡ (elim o as (λ x. List ℕ) [ Some s ↦ offsets_in p s | None ↦ [] ])
    read (Some s) = refl
    read None = refl

-- what is computed of a declared struct is so of the source
pub offsets_found : (p : Declared) (k : ℕ) → IsTrue (is_some (slice_get p.structs.extents k)) → offsets_at p.table.types p.structs k ≡ offsets_of (program_in p []) (StructOf k)
offsets_found p k h =
    let there : slice_get (all_declared p.table.types p.structs) k ≡ Some (offsets_at p.table.types p.structs k) = by_number p.table.types p.structs k 0 p.structs.extents h ∙ (let same : 0 + k ≡ k = omega arith in ap (λ n. Some (offsets_at p.table.types p.structs n)) same) in
    ap (λ o. unwrap_or o []) (sym there) ∙ (ap (λ os. unwrap_or (slice_get os k) []) (offsets_declared p) ∙ looked (program_in p []) k)

-- the same of a complete type that is a struct
pub offsets_complete : (p : Declared) (t : CType) (k : ℕ) → StructOf k ≡ t → IsTrue (is_complete (map (λ s. s.extent) (structs_in p.table.types p.structs)) t) → offsets_at p.table.types p.structs k ≡ offsets_of (program_in p []) t
offsets_complete p t k e h =
    let here : IsTrue (is_complete p.structs.extents (StructOf k)) =
    subst (λ (u : CType). IsTrue (is_complete p.structs.extents u)) (sym e) (subst (λ (es : List Extent). IsTrue (is_complete es t)) (extents_declared p.table.types p.structs.members 0 p.structs.extents) h) in
    offsets_found p k here ∙ ap (offsets_of (program_in p [])) e
