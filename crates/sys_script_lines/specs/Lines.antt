-- What one line of a system file says, without the byte that ends it. None: it is none of the lines that
-- there are.
use Rattle.std.specs.Prelude.{ℕ, ◌==◌, if◌then◌else◌, List, [], ◌∷◌, codes, Option, Some, None}
use Rattle.std.specs.Option.{option_map, option_and_then}
use Rattle.std.specs.Str.{bytes_eq}
use Rattle.system_side.specs.declared.file.Scripted.{Scripted}
use Rattle.sys_script_lines.specs.declared.externals.External.{External}
use Rattle.sys_script_lines.specs.Answers.{answer}
use Rattle.sys_script_lines.specs.Each.{each}
use Rattle.sys_script_lines.specs.Numbers.{number_in}
use Rattle.sys_script_lines.specs.Parts.{cut_at, parts}
use Rattle.sys_script_lines.specs.Turns.{turn}

-- what a line says: nothing, how many steps a run may make, how many records a chunk of the log has, which thread is to step
-- when, or what a function answers
pub data Item : Type 0 where
  Nothing : Item
  Budget : ℕ → Item
  Chunk : ℕ → Item
  Schedule : List (ℕ × ℕ) → Item
  Answer : Scripted → Item

abbrev pub budget_line : List ℕ → Option Item
budget_line text = option_map Budget (number_in 0 100000000 text)

abbrev pub chunk_line : List ℕ → Option Item
chunk_line text = option_map Chunk (number_in 1 65535 text)

abbrev pub schedule_line : List ℕ → Option Item
schedule_line text = option_map Schedule (each turn (parts 32 text))

abbrev pub answer_line : (List ℕ → Option External) → List ℕ → Option Item
answer_line who text = option_map Answer (answer who (parts 32 text))

-- by its first word, and what stands after the blank that ends it
abbrev pub said_by : (List ℕ → Option External) → (word rest : List ℕ) → Option Item
said_by who word rest =
    if bytes_eq word (codes "budget") then budget_line rest
    else if bytes_eq word (codes "chunk") then chunk_line rest
    else if bytes_eq word (codes "schedule") then schedule_line rest
    else if bytes_eq word (codes "answer") then answer_line who rest
    else None

-- an empty line and one that begins with `#` say nothing
abbrev pub says : (List ℕ → Option External) → List ℕ → Option Item
says who [] = Some Nothing
says who (b ∷ bs) = if b == 35 then Some Nothing else option_and_then (λ c. said_by who c.0 c.1)
    (cut_at 32 (b ∷ bs))
