-- The test of types as it is computed.
use Rattle.std.proofs.Common.{◌≡◌, ◌↔◌, Bool, true, false, IsTrue, refl, sym}
use Rattle.c_types_model.specs.Types.{CType}
use Rattle.c_types_rules.specs.TypeTests.{same_type}
use Rattle.c_types_rules.proofs.SameTypes.{types_compared}

equal_tests : (r s : Bool) (t u : CType) → IsTrue r ↔ (t ≡ u) → IsTrue s ↔ (t ≡ u) → r ≡ s
equal_tests true true t u h k = refl
equal_tests true false t u h k = sym (k.1 (h.0 refl))
equal_tests false true t u h k = h.1 (k.0 refl)
equal_tests false false t u h k = refl

pub same_as_test : (r : Bool) (t u : CType) → IsTrue r ↔ (t ≡ u) → r ≡ same_type t u
same_as_test r t u h = equal_tests r (same_type t u) t u h (types_compared t u)
