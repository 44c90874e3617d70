-- The answers of a system file, by function.
use Rattle.std.specs.Prelude.{ℕ, ◌+◌, List, [], ◌∷◌, slice_index_or, if◌then◌else◌, ◌==◌}
use Rattle.system_side.specs.declared.file.Scripted.{Scripted}

-- the places of a function's answers in a list whose first place has this number
abbrev pub places_of : ℕ → ℕ → List Scripted → List ℕ
places_of f from [] = []
places_of f from (a ∷ as_) = if a.func == f then from ∷
    places_of f (from + 1) as_ else places_of f (from + 1) as_

-- the places of a function's answers that are left
abbrev pub left_of : List (List ℕ) → ℕ → List ℕ
left_of left f = slice_index_or left f []
