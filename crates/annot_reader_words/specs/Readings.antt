-- How what annotations say goes by plain data.
use Rattle.std.specs.Prelude.{◌≡◌, ℕ, ℤ, pos, Bool, Option, map, List}
use Rattle.std.specs.Option.{option_map}
use Rattle.annot_reader_rules.specs.Cuts.{named}
use Rattle.annot_reader_rules.specs.Notes.{Parameter}
use Rattle.annot_reader_words.specs.declared.notes.Param.{Param}

-- it is what is meant
abbrev pub IsSame : {A : Type 0} → A → A → Type 0
IsSame x y = y ≡ x

-- a mutex as a value of int
abbrev pub IsMutex : Option ℕ → Option ℤ → Type 0
IsMutex m n = n ≡ option_map pos m

-- what is said of a parameter
abbrev pub parameter_in : Param → Parameter
parameter_in p = record { reads = p.reads; writes = p.writes; prepares = p.prepares; callback = p.callback }

abbrev pub parameters_in : List Param → List Parameter
parameters_in ps = map parameter_in ps

-- whether the cut is among the names
abbrev pub NamesCut : List ℕ → List (List ℕ) → Bool → Type 0
NamesCut cut names found = found ≡ named cut names
