-- Spellings that formats share.
use Rattle.std.specs.Prelude.{ℕ, zero, suc, ◌+◌, ◌/◌, ◌%◌, if◌then◌else◌, ltb, List, [], ◌∷◌, length}
use Rattle.std.specs.List.{flat_map}

-- a byte that counts, and that many items
abbrev pub counted : {A : Type 0} → (A → List ℕ) → List A → List ℕ
counted text xs = length xs ∷ flat_map text xs

-- the text of a number, in at most so many groups
unfoldable pub varint_text : ℕ → ℕ → List ℕ
varint_text zero n = []
varint_text (suc groups) n = if ltb n 128 then n ∷ [] else (n % 128 + 128) ∷ varint_text groups (n / 128)
