-- The strings of a typed program.
use Rattle.std.specs.Prelude.{ℕ, List, [], ◌∷◌, ◌++◌, map}
use Rattle.c_types_program.specs.declared.text.TextLiteral.{TextLiteral}
use Rattle.isolation_check_rules.specs.Places.{Literal, bytes_in}

abbrev pub literal_in : TextLiteral → Literal
literal_in t = record { from = t.from; bytes = t.bytes }

abbrev pub literals_in : List TextLiteral → List Literal
literals_in texts = map literal_in texts

-- their bytes, in the order of the source
abbrev pub strings_in : List TextLiteral → List (List ℕ)
strings_in texts = bytes_in (literals_in texts)

-- with its ending zero
abbrev pub ended : (bytes : List ℕ) → List ℕ
ended bytes = bytes ++ 0 ∷ []
