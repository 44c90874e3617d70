-- What is read of a source, one declaration after another.
use Rattle.std.specs.Prelude.{ℕ, ℤ, List, [], ◌∷◌, ◌++◌, Option}
use Rattle.c_syntax.specs.Syntax.{Decl}
use Rattle.c_types_rules.specs.Checked.{Checked, Fine, ◌>>=◌}
use Rattle.c_types_rules.specs.Environment.{Environment}
use Rattle.c_types_rules.specs.Sources.{Program}
use Rattle.annot_reader_rules.specs.Cuts.{noted}
use Rattle.annot_reader_rules.specs.Functions.{global_notes}
use Rattle.annot_reader_rules.specs.Notes.{Annotated, Notes}
use Rattle.annot_reader_words.specs.Readings.{IsMutex}
use Rattle.annot_reader_functions.specs.declared.notes.FunctionNotes.{FunctionNotes}
use Rattle.annot_reader_functions.specs.Sayings.{IsNoted}
use Rattle.annot_reader.specs.declared.reading.Reading.{Reading}

-- the same is said of functions, one by one, where a cut is looked for
abbrev pub AreNoted : (cut : List ℕ) → List Notes → List FunctionNotes → Type 0
AreNoted cut [] [] = Unit {0}
AreNoted cut (n ∷ ns) (v ∷ vs) = IsNoted cut n v × AreNoted cut ns vs
AreNoted cut _ _ = ⊥

-- the same mutexes, as values of int
abbrev pub AreMutexes : List (Option ℕ) → List (Option ℤ) → Type 0
AreMutexes [] [] = Unit {0}
AreMutexes (m ∷ ms) (n ∷ ns) = IsMutex m n × AreMutexes ms ns
AreMutexes _ _ = ⊥

-- the same is said of a source so far, where a cut is looked for
pub record AreRead (cut : List ℕ) (a : Annotated) (r : Reading) : Type 0 where
  pub functions : AreNoted cut a.functions r.functions.items
  pub guards : AreMutexes a.guards r.guards.items

-- the same, in the answer of a call
abbrev pub IsReading : (cut : List ℕ) → Annotated → Reading → Type 0
IsReading cut a r = AreRead cut a r

-- what the declaration of a global says
abbrev pub noted_global : Decl → Annotated → Checked Annotated
noted_global d a = global_notes d >>= λ g. Fine (record a { guards = a.guards ++ g ∷ [] })

-- one declaration more, as a step
abbrev pub noted_step : Environment → Program → Decl → Annotated → Checked Annotated
noted_step env p d a = noted env p d a

-- nothing is said
abbrev pub nothing_read : Annotated
nothing_read = record { functions = []; guards = [] }
