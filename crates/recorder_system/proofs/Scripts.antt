-- The answers of the file that are left.
use Rattle.std.proofs.Common.{◌≡◌, ◌≢◌, ℕ, zero, suc, ◌+◌, Bool, true, false, cond, eqb, List, [], ◌∷◌, set, drop, Option, Some, None, refl, ap, ◌∙◌, arith}
use Rattle.std.specs.Prelude.{filter, slice_get}
use Rattle.system_side.specs.declared.file.Scripted.{Scripted}
use Rattle.system_side.specs.Answers.{left_of, places_of}

abbrev pub is_of : ℕ → Scripted → Bool
is_of f a = eqb a.func f

-- where the n-th of the picked answers lies among all, whose first place has this number
pub data Found (from : ℕ) (all picked : List Scripted) (n : ℕ) : Option ℕ → Type 0 where
  one : (p k : ℕ) (a : Scripted) → p ≡ from + k → slice_get all k ≡ Some a → slice_get picked n ≡ Some a → Found from all picked n (Some p)
  none_left : slice_get picked n ≡ None → Found from all picked n None

later : (from : ℕ) (a : Scripted) (all before picked : List Scripted) (i n : ℕ) (r : Option ℕ) → slice_get picked n ≡ slice_get before i → Found (from + 1) all before i r → Found from (a ∷ all) picked n r
later from a all before picked i n r e (one p k b is at of) = one p (suc k) b (omega (arith, is)) at (e ∙ of)
later from a all before picked i n r e (none_left of) = none_left (e ∙ of)

pub found : (f : ℕ) (all : List Scripted) (from n : ℕ) → Found from all (filter (is_of f) all) n (slice_get (places_of f from all) n)
found f [] from n = none_left refl
found f (a ∷ all) from n = by (eqb a.func f) n (λ k. found f all (from + 1) k)
  where
    rest : List Scripted
    rest = filter (is_of f) all

    On : Type 0
    On = (k : ℕ) → Found (from + 1) all rest k (slice_get (places_of f (from + 1) all) k)

    by : (b : Bool) (n : ℕ) → On → Found from (a ∷ all) (cond b (a ∷ rest) rest) n (slice_get (cond b (from ∷ places_of f (from + 1) all) (places_of f (from + 1) all)) n)
    by true zero on = one from 0 a (omega arith) refl refl
    by true (suc n) on = later from a all rest (a ∷ rest) n (suc n) _ refl (on n)
    by false n on = later from a all rest rest n n _ refl (on n)

pub get_drop : {X : Type 0} (xs : List X) (n : ℕ) → slice_get (drop n xs) 0 ≡ slice_get xs n
get_drop xs zero = refl
get_drop [] (suc n) = refl
get_drop (x ∷ xs) (suc n) = get_drop xs n

pub drop_one : {X : Type 0} (xs : List X) (n : ℕ) → drop 1 (drop n xs) ≡ drop (suc n) xs
drop_one xs zero = refl
drop_one [] (suc n) = refl
drop_one (x ∷ xs) (suc n) = drop_one xs n

-- one answer of a function is taken
pub left_same : (left : List (List ℕ)) (f : ℕ) → left_of (set left f (drop 1 (left_of left f))) f ≡ drop 1 (left_of left f)
left_same [] f = refl
left_same (x ∷ left) zero = refl
left_same (x ∷ left) (suc f) = left_same left f

pub left_other : (left : List (List ℕ)) (f g : ℕ) (x : List ℕ) → g ≢ f → left_of (set left f x) g ≡ left_of left g
left_other [] f g x ne = refl
left_other (y ∷ left) zero zero x ne = absurd (ne refl)
left_other (y ∷ left) zero (suc g) x ne = refl
left_other (y ∷ left) (suc f) zero x ne = refl
left_other (y ∷ left) (suc f) (suc g) x ne = left_other left f g x (λ e. ne (ap suc e))
