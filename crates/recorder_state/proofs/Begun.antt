-- The state before a run.
use Rattle.std.proofs.Common.{◌≡◌, ℕ, zero, suc, ◌<◌, List, [], ◌∷◌, length, get_or, refl, arith}
use Rattle.memory_map.specs.declared.placed.Place.{Place}
use Rattle.space_memory.specs.Objects.{IsInArea}
use Rattle.whole_runs.specs.Fits.{LieApart}

-- objects that lie apart lie in areas
pub in_areas : (os : List Place) → LieApart os → (k : ℕ) (d : Place) → k < length os → IsInArea (get_or os k d)
in_areas [] h k d lt = absurd (omega (arith, lt))
in_areas (o ∷ os) h zero d lt = h.0
in_areas (o ∷ os) h (suc k) d lt = in_areas os h.2 k d (omega (arith, lt))

pub same_get : {X : Type 0} (xs : List X) (k : ℕ) (a b : X) → k < length xs → get_or xs k a ≡ get_or xs k b
same_get [] k a b lt = absurd (omega (arith, lt))
same_get (x ∷ xs) zero a b lt = refl
same_get (x ∷ xs) (suc k) a b lt = same_get xs k a b (omega (arith, lt))
