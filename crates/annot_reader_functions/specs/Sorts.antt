-- Sorts of types, and parameters with their names and sorts. `structs` has the sizes and alignments of the
-- structs that are defined.
use Rattle.std.specs.Prelude.{◌≡◌, ℕ, Bool, true, false, List, [], ◌∷◌, Option, Some, None}
use Rattle.std.specs.Option.{option_copied, option_map}
use Rattle.c_types_model.specs.Types.{CType, Integer, PointerTo, FunctionOf}
use Rattle.c_types_model.specs.Layouts.{capped, extent_of}
use Rattle.c_types_model.specs.declared.extent.Extent.{Extent}
use Rattle.c_types_rules.specs.Environment.{Environment, extents}
use Rattle.c_types_rules.specs.TypeTests.{is_integer}
use Rattle.annot_reader_rules.specs.Regions.{Signature as Known}
use Rattle.annot_reader_functions.specs.declared.sort.Pointee.{Pointee}
use Rattle.annot_reader_functions.specs.declared.sort.Pointee.TheVariants as pointees
use Rattle.annot_reader_functions.specs.declared.sort.Sort.{Sort}
use Rattle.annot_reader_functions.specs.declared.sort.Sort.TheVariants as sorts
use Rattle.annot_reader_functions.specs.declared.signature.Named.{Named}
use Rattle.annot_reader_functions.specs.declared.signature.Signature.{Signature}

-- the size of a complete object type
abbrev pub known_size : (structs : List Extent) → CType → Option ℕ
known_size structs t = option_map (λ e. capped e.size) (extent_of structs t)

abbrev pub pointee_of : (structs : List Extent) → CType → Pointee
pointee_of structs (FunctionOf r ts) = pointees.Function
pointee_of structs t = pointees.Object (known_size structs t)

-- of which sort a type is
abbrev pub sort_of : (structs : List Extent) → CType → Sort
sort_of structs (Integer k) = sorts.Integer
sort_of structs (PointerTo t) = sorts.Pointer (pointee_of structs t)
sort_of structs _ = sorts.Other

abbrev pub is_integer_sort : Sort → Bool
is_integer_sort sorts.Integer = true
is_integer_sort _ = false

abbrev pub is_scalar_sort : Sort → Bool
is_scalar_sort sorts.Other = false
is_scalar_sort _ = true

abbrev pub is_object_pointer_sort : Sort → Bool
is_object_pointer_sort (sorts.Pointer (pointees.Object size)) = true
is_object_pointer_sort _ = false

abbrev pub is_function_pointer_sort : Sort → Bool
is_function_pointer_sort (sorts.Pointer pointees.Function) = true
is_function_pointer_sort _ = false

-- the size of what a pointer points to, where that is known
abbrev pub target_size : Sort → Option ℕ
target_size (sorts.Pointer (pointees.Object size)) = size
target_size _ = None

-- a parameter with its name, if it has one, and the sort of its type
abbrev pub IsNamed : (structs : List Extent) → Named → Option (List ℕ) × CType → Type 0
IsNamed structs n p = (option_copied n.name ≡ p.0) × (n.sort ≡ sort_of structs p.1)

abbrev pub AreNamed : (structs : List Extent) → List Named → List (Option (List ℕ) × CType) → Type 0
AreNamed structs [] [] = Unit {0}
AreNamed structs (n ∷ ns) (p ∷ ps) = IsNamed structs n p × AreNamed structs ns ps
AreNamed structs _ _ = ⊥

-- a parameter's place and the sort of its type
abbrev pub IsPlaced : (structs : List Extent) → Option (ℕ × Sort) → Option (ℕ × CType) → Type 0
IsPlaced structs (Some f) (Some p) = (f.0 ≡ p.0) × (f.1 ≡ sort_of structs p.1)
IsPlaced structs None None = Unit {0}
IsPlaced structs _ _ = ⊥

-- what an annotation may speak of, where this is declared
pub record IsKnown (g : Signature) (here : Environment) (s : Known) : Type 0 where
  pub params : AreNamed (extents here) g.params.items s.params
  pub gives_integer : g.gives_integer ≡ is_integer s.result
  pub env : s.env ≡ here
