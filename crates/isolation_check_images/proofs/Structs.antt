-- Sizes, and where members lie, hang on the structs of a source alone.
use Rattle.std.proofs.Common.{◌≡◌, ℕ, zero, suc, ◌+◌, ◌-◌, ◌<◌, ◌≤◌, ◌^◌, List, [], ◌∷◌, length, map, Option, Some, None, refl, sym, ap, ◌∙◌, subst, arith}
use Rattle.std.specs.Prelude.{slice_get, unwrap_or}
use Rattle.std.specs.Option.{IfSome, option_map}
use Rattle.std.specs.List.{All}
use Rattle.std.proofs.lemmas.List.Elements.{All-head, All-tail}
use Rattle.c_types_model.specs.Types.{CType, Void, Integer, PointerTo, ArrayOf, StructOf, UndefinedStruct, FunctionOf}
use Rattle.c_types_model.specs.Layouts.{offsets_from}
use Rattle.c_types_model.specs.declared.extent.Extent.{Extent}
use Rattle.c_types_table.specs.declared.ids.TypeId.{TypeId}
use Rattle.c_types_table.specs.declared.ty.Ty.{Ty}
use Rattle.c_types_table.specs.Tables.{IsBelow, type_at}
use Rattle.c_types_structs.specs.Members.{Definitions, MemberList, members_at, read_members, type_of_member}
use Rattle.c_types_rules.specs.Environment.{Struct}
use Rattle.c_types_rules.specs.Initials.{member_types, types_in}
use Rattle.c_types_rules.specs.Operators.{size_in}
use Rattle.c_types_rules.specs.Sources.{Program, extents_in}
use Rattle.memory_map.specs.declared.placed.Place.{Place}
use Rattle.c_semantics.specs.Context.{Source, address_of, member_offset, order_of, size_of}
use Rattle.c_types_program.specs.Declarations.{Declared, IsMemberBelow, struct_in, structs_from, structs_in}
use Rattle.c_lower_layout.specs.Indexed.{extents_at, member_ids}
use Rattle.isolation_check_rules.specs.Places.{addresses_of}
use Rattle.isolation_check_images.specs.Given.{HasPlaces, IsSource}
use Rattle.c_lower_layout.specs.Sources.{source_in}
use Rattle.c_lower_layout.proofs.Placing.{extents_mapped, members_below}

same_size : (s u : Source) (t : CType) → s.program.structs ≡ u.program.structs → size_of s t ≡ size_of u t
same_size s u t e = ap (λ (ss : List Struct). size_in (map (λ x. x.extent) ss) t) e

abbrev types_of : List (List ℕ × CType) → List CType
types_of [] = []
types_of ((name, t) ∷ members) = t ∷ types_of members

abbrev number_or : Option ℕ → ℕ
number_or (Some n) = n
number_or None = 0

abbrev members_of : Option Struct → List CType
members_of (Some x) = types_of x.members
members_of None = []

same_extents : (p q : Program) (ts : List CType) → p.structs ≡ q.structs → extents_in p ts ≡ extents_in q ts
same_extents p q ts e =
    extents_mapped p ts ∙ (ap (λ (ss : List Struct). extents_at (map (λ x. x.extent) ss) ts) e ∙ sym (extents_mapped q ts))

same_offset : (s u : Source) (t : CType) (n : ℕ) → s.program.structs ≡ u.program.structs → member_offset s t n ≡ member_offset u t n
same_offset s u Void n e = refl
same_offset s u (Integer k) n e = refl
same_offset s u (PointerTo t) n e = refl
same_offset s u (ArrayOf m t) n e = refl
same_offset s u (StructOf k) n e =
    ap (λ (es : List Extent). number_or (slice_get (offsets_from 0 es) n))
    (same_extents s.program u.program (members_of (slice_get s.program.structs k)) e
    ∙ ap (λ (ss : List Struct). extents_in u.program (members_of (slice_get ss k))) e)
same_offset s u (UndefinedStruct tag) n e = refl
same_offset s u (FunctionOf r ts) n e = refl

-- ---- the types of members

member_there : (types : List Ty) (ms : MemberList) (place : ℕ) → option_map (type_at types) (type_of_member ms place) ≡ slice_get (member_types (read_members (type_at types) ms)) place
member_there types [] place = refl
member_there types (m ∷ ms) zero = refl
member_there types (m ∷ ms) (suc place) = member_there types ms place

types_there : (types : List Ty) (mss : List MemberList) (first number : ℕ) (es : List Extent) → number < length es →
    types_in (structs_from types mss first es) number ≡ member_types (read_members (type_at types) (members_at mss (first + number)))
types_there types mss first number [] lt = absurd (omega arith)
types_there types mss first zero (e ∷ es) lt = ap (λ (k : ℕ). member_types (read_members (type_at types) (members_at mss k))) (omega arith)
types_there types mss first (suc number) (e ∷ es) lt =
    types_there types mss (suc first) number es (omega arith)
    ∙ ap (λ (k : ℕ). member_types (read_members (type_at types) (members_at mss k))) (omega arith)

-- the type of the member at a place of a struct
pub member_of : (types : List Ty) (ds : Definitions) (number place : ℕ) → number < length ds.extents →
    option_map (type_at types) (type_of_member (members_at ds.members number) place) ≡ slice_get (types_in (structs_in types ds) number) place
member_of types ds number place lt =
    member_there types (members_at ds.members number) place
    ∙ sym (ap (λ (ts : List CType). slice_get ts place) (types_there types ds.members 0 number ds.extents lt
    ∙ ap (λ (k : ℕ). member_types (read_members (type_at types) (members_at ds.members k))) (omega arith)))

none_there : (types : List Ty) (mss : List MemberList) (first number : ℕ) (es : List Extent) → length es ≤ number → types_in (structs_from types mss first es) number ≡ []
none_there types mss first number [] le = refl
none_there types mss first zero (e ∷ es) le = absurd (omega arith)
none_there types mss first (suc number) (e ∷ es) le = none_there types mss (suc first) number es (omega arith)

-- no struct has the number
pub no_member : (types : List Ty) (ds : Definitions) (number place : ℕ) → length ds.extents ≤ number → None ≡ slice_get (types_in (structs_in types ds) number) place
no_member types ds number place le = sym (ap (λ (ts : List CType). slice_get ts place) (none_there types ds.members 0 number ds.extents le))

-- the type of a member is one of the table
type_inside : (n : ℕ) (ms : MemberList) (place : ℕ) → All (IsBelow n) (member_ids ms) → IfSome (type_of_member ms place) (IsBelow n)
type_inside n [] place h = tt
type_inside n (m ∷ ms) zero h = All-head (IsBelow n) m.1 (member_ids ms) h
type_inside n (m ∷ ms) (suc place) h = type_inside n ms place (All-tail (IsBelow n) m.1 (member_ids ms) h)

pub member_inside : (n : ℕ) (mss : List MemberList) (number place : ℕ) → All (All (IsMemberBelow n)) mss → IfSome (type_of_member (members_at mss number) place) (IsBelow n)
member_inside n mss number place h = type_inside n (members_at mss number) place (members_below n number mss h)

-- ---- the places of members

struct_there : (types : List Ty) (mss : List MemberList) (first number : ℕ) (es : List Extent) → number < length es →
    (e : Extent) × (slice_get (structs_from types mss first es) number ≡ Some (struct_in types mss (first + number) e))
struct_there types mss first number [] lt = absurd (omega arith)
struct_there types mss first zero (e ∷ es) lt = let n : first ≡ first + 0 = omega arith in (e, ap (λ (k : ℕ). Some (struct_in types mss k e)) n)
struct_there types mss first (suc number) (e ∷ es) lt =
    let (x, is) = struct_there types mss (suc first) number es (omega (arith, lt)) in
    let n : suc first + number ≡ first + suc number = omega arith in
    (x, is ∙ ap (λ (k : ℕ). Some (struct_in types mss k x)) n)

read_many : (types : List Ty) (ms : MemberList) → length (read_members (type_at types) ms) ≡ length ms
read_many types [] = refl
read_many types (m ∷ ms) = ap suc (read_many types ms)

member_within : (n : ℕ) (ms : MemberList) (place : ℕ) → length ms ≤ n → IfSome (type_of_member ms place) (λ ty. place < n)
member_within n [] place few = tt
member_within n (m ∷ ms) zero few = omega (arith, few)
member_within n (m ∷ ms) (suc place) few = by (type_of_member ms place) (member_within (n - 1) ms place (omega (arith, few)))
  where
    by : (o : Option TypeId) → IfSome o (λ ty. place < n - 1) → IfSome o (λ ty. suc place < n)
    by None h = tt
    by (Some ty) h = omega (arith, h)

-- 32 bits are enough for the place of a member
pub place_small : (p : Declared) → HasPlaces p → (number place : ℕ) → number < length p.structs.extents → IfSome (type_of_member (members_at p.structs.members number) place) (λ ty. place < 2 ^ 32)
place_small p few number place lt =
    let (e, is) = struct_there p.table.types p.structs.members 0 number p.structs.extents lt in
    let same : 0 + number ≡ number = omega arith in
    let many = read_many p.table.types (members_at p.structs.members (0 + number)) in
    let here : length (members_at p.structs.members (0 + number)) ≤ 2 ^ 32 = (let most = few number _ is in omega (arith, most, many)) in
    member_within (2 ^ 32) (members_at p.structs.members number) place (subst (λ (k : ℕ). length (members_at p.structs.members k) ≤ 2 ^ 32) same here)

-- ---- what is computed of the program holds of each source that has its structs and strings

pub size_here : (p : Declared) (strings globals : List ℕ) (s : Source) (t : CType) → IsSource p strings globals s → size_of (source_in p) t ≡ size_of s t
unfolding source_in
size_here p strings globals s t h = same_size (source_in p) s t (sym h.structs)

pub offset_here : (p : Declared) (strings globals : List ℕ) (s : Source) (t : CType) (n : ℕ) → IsSource p strings globals s → member_offset (source_in p) t n ≡ member_offset s t n
unfolding source_in
offset_here p strings globals s t n h = same_offset (source_in p) s t n (sym h.structs)

pub order_here : (p : Declared) (strings globals : List ℕ) (s : Source) (from : ℕ) → IsSource p strings globals s → order_of from (source_in p).texts ≡ order_of from s.texts
unfolding source_in
order_here p strings globals s from h = ap (order_of from) (sym h.texts)

-- the address of an object, by those of all
pub address_there : (os : List Place) (k : ℕ) → unwrap_or (slice_get (addresses_of os) k) 0 ≡ address_of (slice_get os k)
address_there [] k = refl
address_there (o ∷ os) zero = refl
address_there (o ∷ os) (suc k) = address_there os k
