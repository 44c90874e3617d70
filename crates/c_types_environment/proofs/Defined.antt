-- Structs that are defined after others, and their sizes.
use Rattle.std.proofs.Common.{◌≡◌, ℕ, Bool, zero, suc, ◌+◌, ◌*◌, ◌/◌, ◌<◌, ◌≤◌, max, List, [], ◌∷◌, ◌++◌, length, map, take, Option, Some, None, IfSome, refl, sym, ap, ◌∙◌, subst, arith}
use Rattle.std.specs.Prelude.{slice_get, slice_index_or, unwrap_or}
use Rattle.std.specs.Option.{option_map}
use Rattle.std.specs.List.{All}
use Rattle.std.proofs.lemmas.List.{append-nil, append_assoc, map-append}
use Rattle.std.proofs.lemmas.List.Elements.{All-nil, All-cons, All-head, All-push, All-tail}
use Rattle.r2_num.specs.declared.kinds.IntKind.{IntKind}
use Rattle.r2_num.specs.declared.kinds.IntKind.TheVariants.{I8, U8, I16, U16, I32, U32, I64, U64}
use Rattle.c_types_model.specs.Types.{CType, Void, Integer, PointerTo, ArrayOf, StructOf, UndefinedStruct, FunctionOf}
use Rattle.c_types_model.specs.Layouts.{IsAligned, capped, capped_extent, extent_of, greatest_align, kind_extent, repeated, scalar, struct_of}
use Rattle.c_types_model.specs.declared.extent.Extent.{Extent}
use Rattle.c_types_table.specs.declared.ids.TypeId.{TypeId}
use Rattle.c_types_table.specs.declared.ty.Ty.{Ty}
use Rattle.c_types_table.specs.Tables.{at, types_of}
use Rattle.c_scopes.specs.Scopes.{Scope}
use Rattle.c_types_nodes.specs.declared.ids.NodeId.{NodeId}
use Rattle.c_types_nodes.specs.Tables.{Table}
use Rattle.c_types_table.proofs.Extents.{extents_capped}
use Rattle.c_types_rules.specs.Environment.{Struct}
use Rattle.c_types_rules.specs.Sources.{extent_or, extents_of}
use Rattle.c_types_structs.specs.Members.{Definitions, MemberList, type_of_member}
use Rattle.c_types_environment.specs.declared.meaning.Meaning.{Meaning}
use Rattle.c_types_environment.specs.Reading.{members_by, scopes_by, struct_with, structs_by, IsMemberBelow}
use Rattle.c_types_environment.specs.States.{State, IsSound, state_by, with_struct}

abbrev pub sizes : List Struct → List Extent
sizes ss = map (λ s. s.extent) ss

-- ---- one struct more

struct_after : (ts : List CType) (before : List Extent) (mss : List MemberList) (ms : MemberList)
    → structs_by ts before (mss ++ ms ∷ []) ≡ structs_by ts before mss ++ struct_with (before ++ sizes (structs_by ts before mss)) (members_by ts ms) ∷ []
struct_after ts before [] ms = ap (λ es. struct_with es (members_by ts ms) ∷ []) (sym (append-nil before))
struct_after ts before (x ∷ mss) ms =
    let s : Struct = struct_with before (members_by ts x) in
    let rest : List Struct = structs_by ts (before ++ s.extent ∷ []) mss in
    ap (λ r. s ∷ r)
    (struct_after ts (before ++ s.extent ∷ []) mss ms
    ∙ ap (λ es. rest ++ struct_with es (members_by ts ms) ∷ []) (append_assoc before (s.extent ∷ []) (sizes rest)))

pub struct_pushed : (ts : List CType) (mss : List MemberList) (ms : MemberList) → structs_by ts [] (mss ++ ms ∷ []) ≡ structs_by ts [] mss ++ struct_with (sizes (structs_by ts [] mss)) (members_by ts ms) ∷ []
struct_pushed ts mss ms = struct_after ts [] mss ms

pub extents_pushed : (ts : List CType) (mss : List MemberList) (ms : MemberList) (es : List Extent) (e : Extent) → es ≡ map capped_extent (sizes (structs_by ts [] mss)) → e ≡ capped_extent (struct_with (sizes (structs_by ts [] mss)) (members_by ts ms)).extent
    → es ++ e ∷ [] ≡ map capped_extent (sizes (structs_by ts [] (mss ++ ms ∷ [])))
extents_pushed ts mss ms es e h k =
    let before : List Struct = structs_by ts [] mss in
    let s : Struct = struct_with (sizes before) (members_by ts ms) in
    ap (λ x. x ++ e ∷ []) h
    ∙ (ap (λ x. map capped_extent (sizes before) ++ x ∷ []) k
    ∙ (sym (map-append capped_extent (sizes before) (s.extent ∷ []))
    ∙ (ap (map capped_extent) (sym (map-append (λ (x : Struct). x.extent) before (s ∷ [])))
    ∙ ap (λ x. map capped_extent (sizes x)) (sym (struct_pushed ts mss ms)))))

pub defined_sound : (types : List Ty) (structs more : Definitions) (scopes : List (Scope Meaning)) (ms : MemberList) (e : Extent) → IsSound types structs scopes → All (IsMemberBelow (length types)) ms
    → e ≡ capped_extent (struct_with (sizes (structs_by (types_of types) [] structs.members)) (members_by (types_of types) ms)).extent → more.members ≡ structs.members ++ ms ∷ [] → more.extents ≡ structs.extents ++ e ∷ []
    → IsSound types more scopes
defined_sound types structs more scopes ms e h below size members extents =
    let ts = types_of types in
    let to : List MemberList → Type 0 = λ mss. All (All (IsMemberBelow (length types))) mss in
    record {
      members = subst to (sym members) (All-push (All (IsMemberBelow (length types))) structs.members ms h.members below);
      names = h.names;
      extents = extents ∙ (extents_pushed ts structs.members ms structs.extents e h.extents size ∙ ap (λ mss. map capped_extent (sizes (structs_by ts [] mss))) (sym members));
      scoped = h.scoped;
    }

pub defined_state : (t : Table) (tags : List (List ℕ)) (structs more : Definitions) (scopes : List (Scope Meaning)) (large : Bool) (ids : List NodeId) (now : State) (ms : MemberList) → state_by t tags structs scopes large ids ≡ now → more.members ≡ structs.members ++ ms ∷ []
    → state_by t tags more scopes large ids ≡ record now { env = with_struct now.env (members_by (types_of now.table.types) ms) }
defined_state t tags structs more scopes large ids now ms same members =
    let ts = types_of t.types in
    let there : State → Type 0 = λ s. state_by t tags more scopes large ids ≡ record s { env = with_struct s.env (members_by (types_of s.table.types) ms) } in
    subst there same
    (ap (λ ss. record { table = t; env = record { tags = tags; structs = ss; scopes = scopes_by ts scopes }; found_large = large; unevaluated = ids })
    (ap (structs_by ts []) members ∙ struct_pushed ts structs.members ms))

-- ---- what is aligned

kind_aligned : (k : IntKind) → IsAligned (kind_extent k)
kind_aligned I8 = omega arith
kind_aligned U8 = omega arith
kind_aligned I16 = omega arith
kind_aligned U16 = omega arith
kind_aligned I32 = omega arith
kind_aligned U32 = omega arith
kind_aligned I64 = omega arith
kind_aligned U64 = omega arith

greatest_aligned : (es : List Extent) → 0 < greatest_align es
greatest_aligned [] = omega arith
greatest_aligned (e ∷ es) = let h = greatest_aligned es in omega arith

structs_aligned : (ts : List CType) (before : List Extent) (mss : List MemberList) → All IsAligned (sizes (structs_by ts before mss))
structs_aligned ts before [] = All-nil IsAligned
structs_aligned ts before (ms ∷ mss) =
    let s : Struct = struct_with before (members_by ts ms) in
    All-cons IsAligned s.extent (sizes (structs_by ts (before ++ s.extent ∷ []) mss)) (greatest_aligned (extents_of before (members_by ts ms))) (structs_aligned ts (before ++ s.extent ∷ []) mss)

pub all_aligned : (ts : List CType) (mss : List MemberList) → All IsAligned (sizes (structs_by ts [] mss))
all_aligned ts mss = structs_aligned ts [] mss

IsMaybeAligned : Option Extent → Type 0
IsMaybeAligned o = IfSome o IsAligned

get_aligned : (es : List Extent) (i : ℕ) → All IsAligned es → IfSome (slice_get es i) IsAligned
get_aligned [] i h = tt
get_aligned (e ∷ es) zero h = All-head IsAligned e es h
get_aligned (e ∷ es) (suc i) h = get_aligned es i (All-tail IsAligned e es h)

repeated_aligned : (n : ℕ) (o : Option Extent) → IfSome o IsAligned → IfSome (option_map (repeated n) o) IsAligned
repeated_aligned n None h = tt
repeated_aligned n (Some e) h = h

extent_aligned : (es : List Extent) (t : CType) → All IsAligned es → IfSome (extent_of es t) IsAligned
extent_aligned es Void h = tt
extent_aligned es (Integer k) h = kind_aligned k
extent_aligned es (PointerTo t) h = omega arith
extent_aligned es (ArrayOf n t) h = repeated_aligned n (extent_of es t) (extent_aligned es t h)
extent_aligned es (StructOf i) h = get_aligned es i h
extent_aligned es (UndefinedStruct tag) h = tt
extent_aligned es (FunctionOf r ps) h = tt

or_aligned : (o : Option Extent) → IfSome o IsAligned → IsAligned (extent_or o)
or_aligned None h = omega arith
or_aligned (Some e) h = h

pub members_aligned : (es : List Extent) (ms : List (List ℕ × CType)) → All IsAligned es → All IsAligned (map capped_extent (extents_of es ms))
members_aligned es [] h = All-nil IsAligned
members_aligned es (m ∷ ms) h =
    All-cons IsAligned (capped_extent (extent_or (extent_of es m.1))) (map capped_extent (extents_of es ms)) (or_aligned (extent_of es m.1) (extent_aligned es m.1 h)) (members_aligned es ms h)

-- ---- the members of a struct, one after another

length_extents : (es : List Extent) (ts : List CType) (ms : MemberList) → length (extents_of es (members_by ts ms)) ≡ length ms
length_extents es ts [] = refl
length_extents es ts (m ∷ ms) = ap suc (length_extents es ts ms)

past_last : (es : List Extent) (ts : List CType) (ms : MemberList) (place : ℕ) (d : Extent) → type_of_member ms place ≡ None → slice_index_or (extents_of es (members_by ts ms)) place d ≡ d
past_last es ts [] place d h = refl
past_last es ts (m ∷ ms) zero d h = absurd cc
past_last es ts (m ∷ ms) (suc place) d h = past_last es ts ms place d h

at_place : (es : List Extent) (ts : List CType) (ms : MemberList) (place : ℕ) (d : Extent) (ty : TypeId) → type_of_member ms place ≡ Some ty → slice_index_or (extents_of es (members_by ts ms)) place d ≡ extent_or (extent_of es (at ts ty))
at_place es ts [] place d ty h = absurd cc
at_place es ts (m ∷ ms) zero d ty h = let same : m.1 ≡ ty = cc in ap (λ t. extent_or (extent_of es (at ts t))) same
at_place es ts (m ∷ ms) (suc place) d ty h = at_place es ts ms place d ty h

or_capped : (o : Option Extent) → unwrap_or (option_map capped_extent o) (scalar 1) ≡ capped_extent (extent_or o)
or_capped None = refl
or_capped (Some e) = refl

pub no_member_sized : (es : List Extent) (ts : List CType) (ms : MemberList) (place : ℕ) → None ≡ type_of_member ms place → scalar 1 ≡ capped_extent (slice_index_or (extents_of es (members_by ts ms)) place (scalar 1))
no_member_sized es ts ms place h = ap capped_extent (sym (past_last es ts ms place (scalar 1) (sym h)))

pub member_sized : (es : List Extent) (ts : List CType) (ms : MemberList) (place : ℕ) (ty : TypeId) (o : Option Extent) → Some ty ≡ type_of_member ms place → o ≡ option_map capped_extent (extent_of (map capped_extent es) (at ts ty))
    → unwrap_or o (scalar 1) ≡ capped_extent (slice_index_or (extents_of es (members_by ts ms)) place (scalar 1))
member_sized es ts ms place ty o h e =
    ap (λ x. unwrap_or x (scalar 1)) (e ∙ extents_capped es (at ts ty))
    ∙ (or_capped (extent_of es (at ts ty)) ∙ ap capped_extent (sym (at_place es ts ms place (scalar 1) ty (sym h))))

taken_more : (xs : List Extent) (p : ℕ) (d : Extent) → p < length xs → map capped_extent (take (suc p) xs) ≡ map capped_extent (take p xs) ++ capped_extent (slice_index_or xs p d) ∷ []
taken_more [] p d lt = absurd (omega arith)
taken_more (x ∷ xs) zero d lt = refl
taken_more (x ∷ xs) (suc p) d lt = ap (λ r. capped_extent x ∷ r) (taken_more xs p d (omega arith))

taken_all : (xs : List Extent) (p : ℕ) → length xs ≤ p → take p xs ≡ xs
taken_all [] zero le = refl
taken_all [] (suc p) le = refl
taken_all (x ∷ xs) zero le = absurd (omega arith)
taken_all (x ∷ xs) (suc p) le = ap (λ r. x ∷ r) (taken_all xs p (omega arith))

pub one_more : (es : List Extent) (ts : List CType) (ms : MemberList) (items : List Extent) (p : ℕ) (e : Extent) → p < length ms → items ≡ map capped_extent (take p (extents_of es (members_by ts ms))) → e ≡ capped_extent (slice_index_or (extents_of es (members_by ts ms)) p (scalar 1))
    → items ++ e ∷ [] ≡ map capped_extent (take (p + 1) (extents_of es (members_by ts ms)))
one_more es ts ms items p e lt h k =
    let exact = extents_of es (members_by ts ms) in
    let within : p < length exact = let l = length_extents es ts ms in omega arith in
    let next : suc p ≡ p + 1 = omega arith in
    ap (λ x. x ++ e ∷ []) h
    ∙ (ap (λ x. map capped_extent (take p exact) ++ x ∷ []) k
    ∙ (sym (taken_more exact p (scalar 1) within)
    ∙ ap (λ n. map capped_extent (take n exact)) next))

pub all_taken : (es : List Extent) (ts : List CType) (ms : MemberList) (items : List Extent) (p : ℕ) → length ms ≤ p → items ≡ map capped_extent (take p (extents_of es (members_by ts ms))) → items ≡ map capped_extent (extents_of es (members_by ts ms))
all_taken es ts ms items p le h =
    let exact = extents_of es (members_by ts ms) in
    let past : length exact ≤ p = let l = length_extents es ts ms in omega arith in
    h ∙ ap (map capped_extent) (taken_all exact p past)
