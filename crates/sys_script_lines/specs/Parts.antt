-- Texts that a byte parts: lines, words, the two halves of a turn.
use Rattle.std.specs.Prelude.{◌≡◌, ℕ, ◌==◌, if◌then◌else◌, List, [], ◌∷◌, Option, Some, None}
use Rattle.std.specs.List.{slice_split}
use Rattle.std.specs.Option.{option_map}

-- the parts of a text between the bytes of this value; of the empty text it is the one part
abbrev pub parts : ℕ → List ℕ → List (List ℕ)
parts end text = slice_split (λ b. b == end) text

-- one byte more in the first of two texts
abbrev pub onto : ℕ → List ℕ × List ℕ → List ℕ × List ℕ
onto b c = (b ∷ c.0, c.1)

-- what stands before the first byte of this value, and what after it; None where there is none
abbrev pub cut_at : ℕ → List ℕ → Option (List ℕ × List ℕ)
cut_at end [] = None
cut_at end (b ∷ bs) = if b == end then Some ([], bs) else option_map (onto b) (cut_at end bs)

-- two texts, seen by a view of each
abbrev pub pair_of : {A B : Type 0} → (A → B) → Option (A × A) → Option (B × B)
pair_of view found = option_map (λ x. (view x.0, view x.1)) found

-- a text that is one part, since it has no byte of this value
abbrev pub IsPart : ℕ → List ℕ → Type 0
IsPart end text = parts end text ≡ text ∷ []
