-- Sizes and equality of types, as they are computed.
use Rattle.std.proofs.Common.{◌≡◌, ℕ, ◌↔◌, Bool, true, false, IsTrue, List, Option, Some, None, refl, sym}
use Rattle.std.specs.Option.{option_map}
use Rattle.c_types_model.specs.Types.{CType}
use Rattle.c_types_model.specs.Layouts.{capped, capped_extent, extent_of}
use Rattle.c_types_model.specs.declared.extent.Extent.{Extent}
use Rattle.c_types_rules.specs.TypeTests.{same_type}
use Rattle.c_types_rules.specs.Operators.{size_in}
use Rattle.c_types_rules.proofs.SameTypes.{types_compared}

-- the size of what has one, and else 0
abbrev pub size_or : Option Extent → ℕ
size_or (Some e) = e.size
size_or None = 0

pub size_capped : (structs : List Extent) (t : CType) → size_or (option_map capped_extent (extent_of structs t)) ≡ size_in structs t
size_capped structs t =
    elim (extent_of structs t) as (λ o. size_or (option_map capped_extent o) ≡ (elim o as (λ x. ℕ) [ Some e ↦ capped e.size | None ↦ 0 ]))
    [ Some e ↦ refl | None ↦ refl ]

equal_tests : (r s : Bool) (t u : CType) → IsTrue r ↔ (t ≡ u) → IsTrue s ↔ (t ≡ u) → r ≡ s
equal_tests true true t u h k = refl
equal_tests true false t u h k = sym (k.1 (h.0 refl))
equal_tests false true t u h k = h.1 (k.0 refl)
equal_tests false false t u h k = refl

pub same_as_test : (r : Bool) (t u : CType) → IsTrue r ↔ (t ≡ u) → r ≡ same_type t u
same_as_test r t u h = equal_tests r (same_type t u) t u h (types_compared t u)
