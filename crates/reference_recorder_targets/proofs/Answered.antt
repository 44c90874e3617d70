-- The pieces of an answer, from one target on.
use Rattle.std.proofs.Common.{◌≡◌, ℕ, zero, suc, ◌≤◌, List, [], ◌∷◌, ◌++◌, length, drop, min, refl, sym, ap, ◌∙◌, arith, append-nil}
use Rattle.marks.specs.Ranges.{Piece}
use Rattle.whole_runs.specs.Below as below
use Rattle.whole_runs.specs.Below.{pieces_for}
use Rattle.reference_recorder_targets.specs.declared.places.Target.{Target}
use Rattle.reference_recorder_targets.specs.Places.{targets_of}

-- of targets and answers from one place on
abbrev pub from : (targets : List Target) → (answers : List (List ℕ)) → (place : ℕ) → List Piece
from xs bs i = pieces_for (targets_of (drop i xs)) (drop i bs)

no_answer : (xs : List below.Target) → pieces_for xs [] ≡ []
no_answer [] = refl
no_answer (x ∷ xs) = refl

-- none is left where the targets or the answers end
none_left : (xs : List Target) (bs : List (List ℕ)) (i : ℕ) → min (length xs) (length bs) ≤ i → from xs bs i ≡ []
none_left [] bs zero le = refl
none_left [] bs (suc i) le = refl
none_left (y ∷ ys) [] zero le = refl
none_left (y ∷ ys) [] (suc i) le = no_answer (targets_of (drop i ys))
none_left (y ∷ ys) (c ∷ cs) zero le = absurd (omega (arith, le))
none_left (y ∷ ys) (c ∷ cs) (suc i) le = none_left ys cs i (omega (arith, le))

pub all_written : (xs : List Target) (bs : List (List ℕ)) (i : ℕ) (written : List Piece) → min (length xs) (length bs) ≤ i →
    written ++ from xs bs i ≡ from xs bs 0 → written ≡ from xs bs 0
all_written xs bs i written le so_far = sym (append-nil written) ∙ (ap (λ ps. written ++ ps) (sym (none_left xs bs i le)) ∙ so_far)
