-- The numbers that arguments are, one after the other.
use Rattle.std.proofs.Common.{◌≡◌, ℕ, zero, suc, ◌+◌, ◌<◌, List, [], ◌∷◌, ◌++◌, length, get_or, take, min, refl, ap, ◌∙◌, arith}
use Rattle.c_code.specs.declared.shape.Shape.{Shape}
use Rattle.stub_meaning.specs.Calls.{number, numbers}

numbers_next : (ts : List Shape) (vs : List ℕ) (i : ℕ) (d : Shape) (v : ℕ) → i < length ts → i < length vs → take (suc i) (numbers ts vs) ≡ take i (numbers ts vs) ++ number (get_or ts i d) (get_or vs i v) ∷ []
numbers_next [] vs i d v lt less = absurd (omega (arith, lt))
numbers_next (t ∷ ts) [] i d v lt less = absurd (omega (arith, less))
numbers_next (t ∷ ts) (x ∷ vs) zero d v lt less = refl
numbers_next (t ∷ ts) (x ∷ vs) (suc i) d v lt less = ap (λ ns. number t x ∷ ns) (numbers_next ts vs i d v (omega (arith, lt)) (omega (arith, less)))

pub numbers_more : (ts : List Shape) (vs : List ℕ) (i : ℕ) (d : Shape) (v : ℕ) → i < length ts → i < length vs → take (i + 1) (numbers ts vs) ≡ take i (numbers ts vs) ++ number (get_or ts i d) (get_or vs i v) ∷ []
numbers_more ts vs i d v lt less = let one : i + 1 ≡ suc i = omega arith in ap (λ n. take n (numbers ts vs)) one ∙ numbers_next ts vs i d v lt less

pub numbers_all : (ts : List Shape) (vs : List ℕ) (n : ℕ) → n ≡ min (length ts) (length vs) → take n (numbers ts vs) ≡ numbers ts vs
numbers_all [] vs zero e = refl
numbers_all [] vs (suc n) e = refl
numbers_all (t ∷ ts) [] zero e = refl
numbers_all (t ∷ ts) [] (suc n) e = refl
numbers_all (t ∷ ts) (x ∷ vs) zero e = absurd (omega (arith, e))
numbers_all (t ∷ ts) (x ∷ vs) (suc n) e = ap (λ ns. number t x ∷ ns) (numbers_all ts vs n (omega (arith, e)))
