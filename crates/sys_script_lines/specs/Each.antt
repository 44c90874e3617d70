-- Lists of words, each of which stands for an item.
use Rattle.std.specs.Prelude.{ℕ, List, [], ◌∷◌, Option, Some}
use Rattle.std.specs.Option.{option_map, option_and_then}

-- an item before those of a list
abbrev pub before : {A : Type 0} → Option (List A) → A → Option (List A)
before more x = option_map (λ xs. x ∷ xs) more

-- the items of all words, where each has one
abbrev pub each : {A : Type 0} → (List ℕ → Option A) → List (List ℕ) → Option (List A)
each item [] = Some []
each item (word ∷ words) = option_and_then (before (each item words)) (item word)
