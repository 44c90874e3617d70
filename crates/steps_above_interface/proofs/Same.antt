-- Lists of pieces, compared one after the other.
use Rattle.std.proofs.Common.{◌≡◌, ◌+◌, ◌<◌, Bool, true, false, List, [], ◌∷◌, ℕ, zero, suc, length, get_or, take, refl, sym, ap, ◌∙◌, arith, add-one}
use Rattle.std.proofs.lemmas.Bool.{and_from, and_left, and_parts, and_right}
use Rattle.marks.specs.Wants.{same_numbers}
use Rattle.replay_runs.specs.Threads.{same_lists}

pub lengths_differ : (xs ys : List (List ℕ)) → (length xs ≡ length ys → ⊥) → same_lists xs ys ≡ false
lengths_differ [] [] ne = absurd (ne refl)
lengths_differ [] (y ∷ ys) ne = refl
lengths_differ (x ∷ xs) [] ne = refl
lengths_differ (x ∷ xs) (y ∷ ys) ne = and_right (same_numbers x y) (same_lists xs ys) (lengths_differ xs ys (λ e. ne (ap suc e)))

pub differ_at : (xs ys : List (List ℕ)) (i : ℕ) (d e : List ℕ) → length xs ≡ length ys → i < length xs → same_numbers (get_or xs i d) (get_or ys i e) ≡ false → same_lists xs ys ≡ false
differ_at [] ys i d e long lt differs = absurd (omega (arith, lt))
differ_at (x ∷ xs) [] i d e long lt differs = refl
differ_at (x ∷ xs) (y ∷ ys) zero d e long lt differs = and_left (same_numbers x y) (same_lists xs ys) differs
differ_at (x ∷ xs) (y ∷ ys) (suc i) d e long lt differs = and_right (same_numbers x y) (same_lists xs ys) (differ_at xs ys i d e (omega (arith, long)) (omega (arith, lt)) differs)

one_more : (xs ys : List (List ℕ)) (i : ℕ) (d e : List ℕ) → length xs ≡ length ys → i < length xs → same_lists (take i xs) (take i ys) ≡ true → same_numbers (get_or xs i d) (get_or ys i e) ≡ true → same_lists (take (suc i) xs) (take (suc i) ys) ≡ true
one_more [] ys i d e long lt so agrees = absurd (omega (arith, lt))
one_more (x ∷ xs) [] i d e long lt so agrees = absurd (omega (arith, long))
one_more (x ∷ xs) (y ∷ ys) zero d e long lt so agrees = and_from (same_numbers x y) true agrees refl
one_more (x ∷ xs) (y ∷ ys) (suc i) d e long lt so agrees =
    let p = and_parts (same_numbers x y) (same_lists (take i xs) (take i ys)) so in
    and_from (same_numbers x y) (same_lists (take (suc i) xs) (take (suc i) ys)) p.0 (one_more xs ys i d e (omega (arith, long)) (omega (arith, lt)) p.1 agrees)

pub same_more : (xs ys : List (List ℕ)) (i : ℕ) (d e : List ℕ) → length xs ≡ length ys → i < length xs → same_lists (take i xs) (take i ys) ≡ true → same_numbers (get_or xs i d) (get_or ys i e) ≡ true → same_lists (take (i + 1) xs) (take (i + 1) ys) ≡ true
same_more xs ys i d e long lt so agrees = ap (λ n. same_lists (take n xs) (take n ys)) (add-one i) ∙ one_more xs ys i d e long lt so agrees

-- what was read at a place is compared
pub read_at : (xs ys : List (List ℕ)) (i : ℕ) (x y : List ℕ) (b : Bool) → x ≡ get_or xs i x → y ≡ get_or ys i y → same_numbers x y ≡ b → same_numbers (get_or xs i x) (get_or ys i y) ≡ b
read_at xs ys i x y b there here e = sym (λ j. same_numbers (there j) (here j)) ∙ e
