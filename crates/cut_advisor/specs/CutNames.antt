-- The names of the cuts of a source, each once, in the order in which they are first named.
use Rattle.std.specs.Prelude.{◌≡◌, ℕ, if◌then◌else◌, List, [], ◌∷◌, ◌++◌}
use Rattle.c_types_rules.specs.Checked.{Checked, Fine, Noted, Broken}
use Rattle.annot_reader_rules.specs.Cuts.{named}
use Rattle.annot_reader_rules.specs.Notes.{Annotated, Notes}

-- names with one more, unless it is among them
abbrev pub with_name : List (List ℕ) → List ℕ → List (List ℕ)
with_name names n = if named n names then names else names ++ n ∷ []

abbrev pub with_names : List (List ℕ) → List (List ℕ) → List (List ℕ)
with_names names [] = names
with_names names (n ∷ ns) = with_names (with_name names n) ns

-- the same with the cuts that functions are in the interface of
abbrev pub with_cuts : List (List ℕ) → List Notes → List (List ℕ)
with_cuts names [] = names
with_cuts names (n ∷ ns) = with_cuts (with_names names n.cuts) ns

-- the cuts that a source names
abbrev pub cuts_of : Annotated → List (List ℕ)
cuts_of a = with_cuts [] a.functions

-- these are they, where its annotations break no rule
abbrev pub AreCuts : Checked Annotated → List (List ℕ) → Type 0
AreCuts (Fine a) names = names ≡ cuts_of a
AreCuts (Noted n a) names = names ≡ cuts_of a
AreCuts (Broken from rule) names = Unit {0}
