-- What is computed of a program once.
use Rattle.std.specs.Prelude.{◌≡◌, ℕ, suc, ◌<◌, ◌≤◌, ◌^◌, Bool, true, false, if◌then◌else◌, ◌==◌, List, [], ◌∷◌, length, map, nat_eq, Option, Some, None, slice_get}
use Rattle.std.specs.Option.{option_map}
use Rattle.std.specs.HashMap.{HashMap, get}
use Rattle.std.specs.declared.hash.FoldHasher.{FoldHasher}
use Rattle.std.specs.declared.hash.BuildHasherDefault.{BuildHasherDefault}
use Rattle.c_types_model.specs.Types.{CType}
use Rattle.c_types_model.specs.Layouts.{end_from, extent_of, offsets_from, scalar}
use Rattle.c_types_model.specs.declared.extent.Extent.{Extent}
use Rattle.c_types_table.specs.declared.ids.TypeId.{TypeId}
use Rattle.c_types_table.specs.declared.ty.Ty.{Ty}
use Rattle.c_types_structs.specs.Members.{Definitions, MemberList, members_at}
use Rattle.c_types_rules.specs.Environment.{Struct}
use Rattle.c_types_rules.specs.Sources.{Program, extents_in}
use Rattle.c_types_program.specs.Declarations.{Declared, types_in}
use Rattle.c_types_program.specs.Programs.{program_in, texts_in}

-- the size and alignment of a type, where `structs` has those of the defined structs; 1 of what is no
-- complete object type
abbrev pub extent_in : (structs : List Extent) → CType → Extent
extent_in structs t = elim (extent_of structs t) [ Some e ↦ e | None ↦ scalar 1 ]

-- the same of several
abbrev pub extents_at : (structs : List Extent) → List CType → List Extent
extents_at structs ts = map (extent_in structs) ts

abbrev pub member_types : List (List ℕ × CType) → List CType
member_types ms = map (λ m. m.1) ms

-- how far the members of a struct lie after its beginning
abbrev pub offsets_in : Program → Struct → List ℕ
offsets_in p s = offsets_from 0 (extents_in p (member_types s.members))

-- where the last member of a struct ends
abbrev pub members_end : Program → Struct → ℕ
members_end p s = end_from 0 (extents_in p (member_types s.members))

-- the types of the members of a struct
abbrev pub member_ids : MemberList → List TypeId
member_ids ms = map (λ m. m.1) ms

-- how far the members of the declared struct of a number lie after its beginning
abbrev pub offsets_at : List Ty → Definitions → (number : ℕ) → List ℕ
offsets_at types ds number = offsets_from 0 (extents_at ds.extents
    (types_in types (member_ids (members_at ds.members number))))

-- where the last of them ends
abbrev pub members_end_at : List Ty → Definitions → (number : ℕ) → ℕ
members_end_at types ds number = end_from 0 (extents_at ds.extents
    (types_in types (member_ids (members_at ds.members number))))

-- how far members lie of the structs from a number on, which have these sizes and alignments
abbrev pub offsets_by : List Ty → Definitions → (number : ℕ) → List Extent → List (List ℕ)
offsets_by types ds number [] = []
offsets_by types ds number (e ∷ es) = offsets_at types ds number ∷ offsets_by types ds (suc number) es

-- the same of all declared structs
abbrev pub offsets_of : List Ty → Definitions → List (List ℕ)
offsets_of types ds = offsets_by types ds 0 ds.extents

-- how far the members of each struct of a program lie after its beginning
abbrev pub all_offsets : Program → List (List ℕ)
all_offsets p = map (offsets_in p) p.structs

-- a list has what another has at each place of 32 bits
abbrev pub AreFirst : List (List ℕ) → List (List ℕ) → Type 0
AreFirst xs all = (k : ℕ) → k < 2 ^ 32 → slice_get xs k ≡ slice_get all k

-- numbers of 16 bits are enough for the functions of a program, numbers of 32 bits for its strings, and
-- numbers of 64 bits for where the members of its structs lie
pub record HasNumbers (p : Declared) : Type 0 where
  pub functions : length p.functions ≤ 2 ^ 16
  pub texts : length p.texts < 2 ^ 32
  pub members : (k : ℕ) (s : Struct) → slice_get (program_in p []).structs k ≡ Some s →
      members_end (program_in p []) s < 2 ^ 64

-- the first place of a number in a list; None where it isn't there
abbrev pub found : ℕ → List ℕ → Option ℕ
found q [] = None
found q (x ∷ xs) = if q == x then Some 0 else option_map suc (found q xs)

-- a place for what has none yet
abbrev pub or_there : Option ℕ → Bool → ℕ → Option ℕ
or_there (Some n) b m = Some n
or_there None true m = Some m
or_there None false m = None

-- for the offset of each string the place of the first string there
abbrev pub Orders : Type 0
Orders = HashMap ℕ ℕ (BuildHasherDefault FoldHasher)

abbrev pub AreOrders : List ℕ → Orders → Type 0
AreOrders texts orders = (from : ℕ) → get nat_eq orders from ≡ found from texts

-- offsets and orders are those of the program; a type leads to no struct whose number has more than 32 bits
pub record IsIndex (p : Declared) (members : List (List ℕ)) (orders : Orders) : Type 0 where
  pub numbers : HasNumbers p
  pub members_are : AreFirst members (all_offsets (program_in p []))
  pub orders_are : AreOrders (texts_in p.texts) orders
