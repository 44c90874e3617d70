-- What a whole system file says, or which line of it is the first wrong one.
use Rattle.std.specs.Prelude.{◌≡◌, ℕ, ◌+◌, List, [], ◌∷◌, ◌++◌, Option, Some, None, Result, Ok, Err}
use Rattle.std.specs.Option.{option_map, option_and_then, unwrap_or}
use Rattle.system_side.specs.declared.file.Scripted.{Scripted}
use Rattle.system_side.specs.declared.file.SysFile.{SysFile}
use Rattle.sys_script_lines.specs.declared.error.ScriptError.{ScriptError}
use Rattle.sys_script_lines.specs.declared.error.ScriptError.TheVariants.{Line, Memory}
use Rattle.sys_script_lines.specs.declared.externals.External.{External}
use Rattle.sys_script_lines.specs.Lines.{Item, Nothing, Budget, Chunk, Schedule, Answer, says}
use Rattle.sys_script_lines.specs.Parts.{parts}

-- what several lines say
pub record SaidSoFar : Type 0 where
  pub budget : Option ℕ
  pub chunk : Option ℕ
  pub schedule : Option (List (ℕ × ℕ))
  pub answers : List Scripted

abbrev pub nothing : SaidSoFar
nothing = record { budget = None; chunk = None; schedule = None; answers = [] }

-- what is said once; None where it was said before
abbrev pub once : {A : Type 0} → Option A → A → Option (Option A)
once None x = Some (Some x)
once (Some y) x = None

-- what is said with one line more
abbrev pub heard : SaidSoFar → Item → Option SaidSoFar
heard s Nothing = Some s
heard s (Budget n) = option_map (λ o. record s { budget = o }) (once s.budget n)
heard s (Chunk n) = option_map (λ o. record s { chunk = o }) (once s.chunk n)
heard s (Schedule turns) = option_map (λ o. record s { schedule = o }) (once s.schedule turns)
heard s (Answer a) = Some (record s { answers = s.answers ++ a ∷ [] })

abbrev pub after_line : (List ℕ → Option External) → SaidSoFar → List ℕ → Option SaidSoFar
after_line who s line = option_and_then (heard s) (says who line)

-- all lines are read, or that of this number is the first wrong one
pub data Script : Type 0 where
  Reads : SaidSoFar → Script
  Breaks : (line : ℕ) → Script

-- what follows the last byte that ends a line is a line without its end, and nothing where it is empty
abbrev pub at_end : (line : ℕ) → SaidSoFar → (rest : List ℕ) → Script
at_end line s [] = Reads s
at_end line s (b ∷ bs) = Breaks line

abbrev pub goes_on : (line : ℕ) → Option SaidSoFar → (SaidSoFar → Script) → Script
goes_on line None f = Breaks line
goes_on line (Some s) f = f s

-- the parts of a file between the bytes that end its lines, the first of which is the line of this number
abbrev pub script : (List ℕ → Option External) → (line : ℕ) → SaidSoFar → List (List ℕ) → Script
script who line s [] = Reads s
script who line s (text ∷ []) = at_end line s text
script who line s (text ∷ next ∷ texts) = goes_on line (after_line who s text) (λ t.
    script who (line + 1) t (next ∷ texts))

-- what the bytes of a file say
abbrev pub script_of : (List ℕ → Option External) → List ℕ → Script
script_of who bytes = script who 1 nothing (parts 10 bytes)

-- the file in which this is said; the rest is as where nothing is said
abbrev pub file_of : SaidSoFar → SysFile
file_of s = record {
  budget = unwrap_or s.budget 1000000;
  chunk = unwrap_or s.chunk 64;
  schedule = unwrap_or s.schedule ((0, 1) ∷ []);
  answers = s.answers;
}

-- the file exactly where all lines are read, and else the first wrong line; of memory nothing is said
abbrev pub IsRead : Script → Result SysFile ScriptError → Type 0
IsRead (Reads s) (Ok file) = file ≡ file_of s
IsRead (Reads s) (Err (Line n)) = ⊥
IsRead (Reads s) (Err Memory) = Unit {0}
IsRead (Breaks line) (Ok file) = ⊥
IsRead (Breaks line) (Err (Line n)) = n ≡ line
IsRead (Breaks line) (Err Memory) = Unit {0}
