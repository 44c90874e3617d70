-- What a line says of an answer of a function.
use Rattle.std.specs.Prelude.{◌≡◌, ℕ, ◌-◌, ◌^◌, ◌<◌, ◌==◌, if◌then◌else◌, List, [], ◌∷◌, ◌++◌, length, Option, Some, None}
use Rattle.std.specs.Option.{option_map, option_and_then}
use Rattle.system_side.specs.AnswerLists.{last_pieces}
use Rattle.system_side.specs.declared.file.Scripted.{Scripted}
use Rattle.sys_script_lines.specs.declared.externals.External.{External}
use Rattle.sys_script_lines.specs.Each.{each}
use Rattle.sys_script_lines.specs.Numbers.{number_in}
use Rattle.sys_script_lines.specs.Parts.{parts}
use Rattle.sys_script_lines.specs.Pieces.{piece}

-- the result that a text spells, in the range of the function's type, as its two's complement pattern of 64
-- bits: a number,
-- or after `-` one that isn't 0
abbrev pub result_in : External → List ℕ → Option ℕ
result_in e [] = None
result_in e (b ∷ bs) = if b == 45 then option_map (λ n. 2 ^ 64 - n) (number_in 1 e.below bs) else number_in
    0 e.most (b ∷ bs)

abbrev pub scripted : External → List (List ℕ) → ℕ → Scripted
scripted e pieces result = record { func = e.func; result = result; pieces = pieces }

-- an answer has as many pieces as the function asks
abbrev pub answer_by : External → (result : List ℕ) → List (List ℕ) → Option Scripted
answer_by e result pieces = if length pieces == e.pieces then option_map (scripted e pieces)
    (result_in e result) else None

-- the words after the name: the result, and the pieces
abbrev pub answer_of : External → List (List ℕ) → Option Scripted
answer_of e [] = None
answer_of e (result ∷ words) = option_and_then (answer_by e result) (each piece words)

-- the words after `answer`: the name of a function without a body, and what it answers
abbrev pub answer : (List ℕ → Option External) → List (List ℕ) → Option Scripted
answer who [] = None
answer who (name ∷ words) = option_and_then (λ e. answer_of e words) (who name)

-- the answers so far, and one more, where there is one
abbrev pub with_answer : List Scripted → Option Scripted → Option (List Scripted)
with_answer so_far more = option_map (λ a. so_far ++ a ∷ []) more

-- the last of some answers has these pieces, so many
pub record HasLast (answers : List Scripted) (pieces : List (List ℕ)) (count : ℕ) : Type 0 where
  pub some : 0 < length answers
  pub pieces_are : last_pieces answers ≡ pieces
  pub count_is : length pieces ≡ count

-- the words spell the pieces of the last answer, so many; nothing where these are none
abbrev pub IsSpelled : (words : List ℕ) (count : ℕ) → List Scripted → Type 0
IsSpelled words count answers = 0 < count → (each piece (parts 32 words) ≡ Some (last_pieces answers)) ×
    HasLast answers (last_pieces answers) count
