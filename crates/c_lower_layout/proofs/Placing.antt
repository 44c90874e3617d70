-- Where members lie.
use Rattle.std.proofs.Common.{◌≡◌, ℕ, zero, suc, ◌+◌, ◌<◌, ◌≤◌, ◌^◌, min, List, [], ◌∷◌, ◌++◌, length, map, take, drop, Option, Some, None, refl, sym, ap, ◌∙◌, subst, arith}
use Rattle.std.specs.Prelude.{slice_get, unwrap_or}
use Rattle.std.specs.Option.{option_map}
use Rattle.std.specs.List.{All}
use Rattle.std.proofs.lemmas.Option.{slice_get-map}
use Rattle.std.proofs.lemmas.List.{drop_all}
use Rattle.std.proofs.lemmas.List.Elements.{All-nil, All-cons, All-head, All-tail}
use Rattle.c_types_model.specs.Types.{CType, StructOf}
use Rattle.c_types_model.specs.Layouts.{end_from, offsets_from}
use Rattle.c_types_model.specs.declared.extent.Extent.{Extent}
use Rattle.c_types_table.specs.declared.ty.Ty.{Ty}
use Rattle.c_types_table.specs.declared.ids.TypeId.{TypeId}
use Rattle.c_types_table.specs.Tables.{IsBelow, type_at}
use Rattle.c_types_structs.specs.Members.{Definitions, MemberList, members_at, read_members, type_of_member}
use Rattle.c_types_rules.specs.Environment.{Struct}
use Rattle.c_types_rules.specs.Sources.{Program, extents_in}
use Rattle.c_semantics.specs.Context.{Source, member_offset}
use Rattle.c_types_nodes.specs.Tables.{Table}
use Rattle.c_types_program.specs.declared.function.Function.{Function}
use Rattle.c_types_program.specs.Declarations.{Declared, IsMemberBelow, function_in, struct_in, structs_from, types_in}
use Rattle.c_types_program.specs.Programs.{program_in}
use Rattle.c_lower_layout.specs.Indexed.{all_offsets, extent_in, extents_at, member_ids, member_types, members_end as end_of_members, members_end_at, offsets_at, offsets_by, offsets_in, offsets_of}

-- ---- what a source says, as it is computed

pub extents_mapped : (p : Program) (ts : List CType) → extents_in p ts ≡ extents_at (map (λ s. s.extent) p.structs) ts
extents_mapped p [] = refl
extents_mapped p (t ∷ ts) = ap (λ es. extent_in (map (λ s. s.extent) p.structs) t ∷ es) (extents_mapped p ts)

pub extents_declared : (types : List Ty) (mss : List MemberList) (n : ℕ) (es : List Extent) → map (λ s. s.extent) (structs_from types mss n es) ≡ es
extents_declared types mss n [] = refl
extents_declared types mss n (e ∷ es) = ap (λ xs. e ∷ xs) (extents_declared types mss (suc n) es)

members_declared : (types : List Ty) (ms : MemberList) → types_in types (member_ids ms) ≡ member_types (read_members (type_at types) ms)
members_declared types [] = refl
members_declared types (m ∷ ms) = ap (λ ts. type_at types m.1 ∷ ts) (members_declared types ms)

-- the struct at a place
struct_there : (types : List Ty) (mss : List MemberList) (n k : ℕ) (es : List Extent) → k < length es → (e : Extent) × (slice_get (structs_from types mss n es) k ≡ Some (struct_in types mss (n + k) e))
struct_there types mss n k [] lt = absurd (omega arith)
struct_there types mss n zero (e ∷ es) lt = let same : n ≡ n + 0 = omega arith in (e, ap (λ m. Some (struct_in types mss m e)) same)
struct_there types mss n (suc k) (e ∷ es) lt =
    let r = struct_there types mss (suc n) k es (omega arith) in
    let same : suc n + k ≡ n + suc k = omega arith in
    (r.0, r.1 ∙ ap (λ m. Some (struct_in types mss m r.0)) same)

module _ (p : Declared) where
  abbrev source : Program
  source = program_in p []

  -- the sizes and alignments of a struct's members
  members_extents : (n : ℕ) (e : Extent) → extents_at p.structs.extents (types_in p.table.types (member_ids (members_at p.structs.members n))) ≡ extents_in source (member_types (struct_in p.table.types p.structs.members n e).members)
  members_extents n e =
      let ms = members_at p.structs.members n in
      ap (λ es. extents_at es (types_in p.table.types (member_ids ms))) (sym (extents_declared p.table.types p.structs.members 0 p.structs.extents))
      ∙ (ap (λ ts. extents_at (map (λ x. x.extent) source.structs) ts) (members_declared p.table.types ms)
      ∙ sym (extents_mapped source (member_types (read_members (type_at p.table.types) ms))))

  struct_declared : (n : ℕ) (e : Extent) → offsets_at p.table.types p.structs n ≡ offsets_in source (struct_in p.table.types p.structs.members n e)
  struct_declared n e = ap (offsets_from 0) (members_extents n e)

  ends_declared : (n : ℕ) (e : Extent) → members_end_at p.table.types p.structs n ≡ end_of_members source (struct_in p.table.types p.structs.members n e)
  ends_declared n e = ap (end_from 0) (members_extents n e)

  -- where members of structs end is small where it is so by the source
  pub ends_small : ((k : ℕ) (s : Struct) → slice_get source.structs k ≡ Some s → end_of_members source s < 2 ^ 64) → (n : ℕ) → n < length p.structs.extents → members_end_at p.table.types p.structs n < 2 ^ 64
  ends_small h n lt =
      let r = struct_there p.table.types p.structs.members 0 n p.structs.extents lt in
      let same : 0 + n ≡ n = omega arith in
      let at : slice_get source.structs n ≡ Some (struct_in p.table.types p.structs.members n r.0) = r.1 ∙ ap (λ m. Some (struct_in p.table.types p.structs.members m r.0)) same in
      subst (λ m. m < 2 ^ 64) (sym (ends_declared n r.0)) (h n (struct_in p.table.types p.structs.members n r.0) at)

  each_declared : (n : ℕ) (es : List Extent) → offsets_by p.table.types p.structs n es ≡ map (offsets_in source) (structs_from p.table.types p.structs.members n es)
  each_declared n [] = refl
  each_declared n (e ∷ es) =
      ap (λ o. o ∷ offsets_by p.table.types p.structs (suc n) es) (struct_declared n e)
      ∙ ap (λ os. offsets_in source (struct_in p.table.types p.structs.members n e) ∷ os) (each_declared (suc n) es)

  -- the offsets that are computed are those of the source
  pub offsets_declared : offsets_of p.table.types p.structs ≡ all_offsets source
  offsets_declared = each_declared 0 p.structs.extents

-- the offsets of the next struct, and of those after it
pub offsets_next : (types : List Ty) (ds : Definitions) (k n : ℕ) (es : List Extent) → n < length es → offsets_by types ds k (drop n es) ≡ offsets_at types ds k ∷ offsets_by types ds (suc k) (drop (suc n) es)
offsets_next types ds k n [] lt = absurd (omega arith)
offsets_next types ds k zero (e ∷ es) lt = refl
offsets_next types ds k (suc n) (e ∷ es) lt = offsets_next types ds k n es (omega arith)

-- a part has what the whole has, at each place in it and after all
first_part : (os rest : List (List ℕ)) (k : ℕ) → (length os ≤ k → rest ≡ []) → slice_get os k ≡ slice_get (os ++ rest) k
first_part [] rest k h = ap (λ (os : List (List ℕ)). slice_get os k) (sym (h (omega arith)))
first_part (o ∷ os) rest zero h = refl
first_part (o ∷ os) rest (suc k) h = first_part os rest k (λ le. h (omega (arith, le)))

-- offsets are the first of all, where those of no struct to which a type can lead are left
pub offsets_first : (types : List Ty) (ds : Definitions) (os : List (List ℕ)) → os ++ offsets_by types ds (length os) (drop (length os) ds.extents) ≡ offsets_of types ds → min (length ds.extents) (2 ^ 32) ≤ length os
    → (k : ℕ) → k < 2 ^ 32 → slice_get os k ≡ slice_get (offsets_of types ds) k
offsets_first types ds os whole enough k lt =
    let rest = offsets_by types ds (length os) (drop (length os) ds.extents) in
    let none : length os ≤ k → rest ≡ [] = λ le. ap (offsets_by types ds (length os)) (drop_all (length os) ds.extents (omega (arith, enough, lt, le))) in
    first_part os rest k none ∙ ap (λ (l : List (List ℕ)). slice_get l k) whole

-- ---- members by number

abbrev types_of : List (List ℕ × CType) → List CType
types_of [] = []
types_of ((name, t) ∷ members) = t ∷ types_of members

types_mapped : (ms : List (List ℕ × CType)) → types_of ms ≡ member_types ms
types_mapped [] = refl
types_mapped ((name, t) ∷ ms) = ap (λ ts. t ∷ ts) (types_mapped ms)

abbrev number_or : Option ℕ → ℕ
number_or (Some n) = n
number_or None = 0

abbrev members_of : Option Struct → List CType
members_of (Some x) = types_of x.members
members_of None = []

number_read : (o : Option ℕ) → number_or o ≡ unwrap_or o 0
number_read (Some n) = refl
number_read None = refl

-- the member of this number, where the offsets of members are known
pub offset_looked : (s : Source) (k n : ℕ) (o : Option (List ℕ)) → slice_get (all_offsets s.program) k ≡ o → member_offset s (StructOf k) n ≡ unwrap_or (slice_get (unwrap_or o []) n) 0
offset_looked s k n o h =
    number_read (slice_get (offsets_from 0 (extents_in s.program (members_of (slice_get s.program.structs k)))) n)
    ∙ ap (λ os. unwrap_or (slice_get os n) 0) (at (slice_get s.program.structs k) o (sym h ∙ slice_get-map (offsets_in s.program) s.program.structs k))
  where
    at : (x : Option Struct) (o : Option (List ℕ)) → o ≡ option_map (offsets_in s.program) x → offsets_from 0 (extents_in s.program (members_of x)) ≡ unwrap_or o []
    at None o h = ap (λ y. unwrap_or y []) (sym h)
    at (Some x) o h = ap (λ ts. offsets_from 0 (extents_in s.program ts)) (types_mapped x.members) ∙ ap (λ y. unwrap_or y []) (sym h)

-- ---- numbers of types

pub ids_below : (n : ℕ) (ms : MemberList) → All (IsMemberBelow n) ms → All (IsBelow n) (member_ids ms)
ids_below n [] h = All-nil (IsBelow n)
ids_below n (m ∷ ms) h = All-cons (IsBelow n) m.1 (member_ids ms) (All-head (IsMemberBelow n) m ms h) (ids_below n ms (All-tail (IsMemberBelow n) m ms h))

-- the types of the members of each struct are among them
pub members_below : (n k : ℕ) (mss : List MemberList) → All (All (IsMemberBelow n)) mss → All (IsBelow n) (member_ids (members_at mss k))
members_below n k [] h = All-nil (IsBelow n)
members_below n zero (ms ∷ mss) h = ids_below n ms (All-head (All (IsMemberBelow n)) ms mss h)
members_below n (suc k) (ms ∷ mss) h = members_below n k mss (All-tail (All (IsMemberBelow n)) ms mss h)

-- ---- members that are read one after another

-- the type of the next member, and those so far
pub member_more : (ms : MemberList) (n : ℕ) (t : TypeId) → Some t ≡ type_of_member ms n → (n < length ms) × (take (suc n) (member_ids ms) ≡ take n (member_ids ms) ++ t ∷ [])
member_more [] n t h = absurd cc
member_more (m ∷ ms) zero t h = (omega arith, ap (λ o. unwrap_or o m.1 ∷ []) (sym h))
member_more (m ∷ ms) (suc n) t h = let r = member_more ms n t h in let lt = r.0 in (omega arith, ap (λ ts. m.1 ∷ ts) r.1)

-- no member is left
pub members_end : (ms : MemberList) (n : ℕ) → None ≡ type_of_member ms n → take n (member_ids ms) ≡ member_ids ms
members_end [] zero h = refl
members_end [] (suc n) h = refl
members_end (m ∷ ms) zero h = absurd cc
members_end (m ∷ ms) (suc n) h = ap (λ ts. m.1 ∷ ts) (members_end ms n h)

-- ---- functions

pub functions_declared : (t : Table) (fs : List Function) → map (λ f. f.type) (map (function_in t) fs) ≡ map (λ f. type_at t.types f.ty) fs
functions_declared t [] = refl
functions_declared t (f ∷ fs) = ap (λ ts. type_at t.types f.ty ∷ ts) (functions_declared t fs)
