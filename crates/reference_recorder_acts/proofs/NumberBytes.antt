-- The bytes of a number, put together one after the other.
use Rattle.std.proofs.Common.{◌≡◌, ℕ, suc, ◌/◌, ◌%◌, List, [], ◌∷◌, ◌++◌, sym, ap, ◌∙◌, append_assoc}
use Rattle.marks.specs.Ranges.{bytes_of_number}

-- the next byte of a number
pub number_more : (bytes : List ℕ) (left rest value : ℕ) → left ≡ suc rest →
    (bytes ++ value % 256 ∷ []) ++ bytes_of_number rest (value / 256) ≡ bytes ++ bytes_of_number left value
number_more bytes left rest value e =
    append_assoc bytes (value % 256 ∷ []) (bytes_of_number rest (value / 256)) ∙ ap (λ n. bytes ++ bytes_of_number n value) (sym e)
