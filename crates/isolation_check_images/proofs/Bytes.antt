-- Bytes that are put one after another.
use Rattle.std.proofs.Common.{◌≡◌, ℕ, suc, ◌/◌, ◌%◌, List, ◌∷◌, Option, ap, subst}
use Rattle.marks.specs.Ranges.{bytes_of_number}
use Rattle.stub_operations.specs.Growing.{IsAdded}

-- the low byte of a number, and the others
pub low_byte : (n m value : ℕ) → n ≡ suc m → bytes_of_number n value ≡ value % 256 ∷ bytes_of_number m (value / 256)
low_byte n m value e = ap (λ (k : ℕ). bytes_of_number k value) e

-- the same bytes
pub same : {o p : Option (List ℕ)} {a b : List ℕ} → a ≡ b → IsAdded o a p → IsAdded o b p
same {o} {p} {a} {b} e f = subst (λ (x : List ℕ). IsAdded o x p) e f
