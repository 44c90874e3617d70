-- What a command leaves.
use Rattle.std.specs.Prelude.{List, [], ◌∷◌, ◌++◌, ℕ, codes, decimal}
use Rattle.r2_cli_outcome.specs.declared.status.Status.{Status}

-- where a text goes: the file of a name, which it replaces, standard output, or standard error
pub data Target : Type 0 where
  file : List ℕ → Target
  out : Target
  err : Target

pub record Write : Type 0 where
  pub to : Target
  pub text : List ℕ

-- its status, its writes in their order, and its line on standard error after them, empty for none
pub record Outcome : Type 0 where
  pub status : Status
  pub writes : List Write
  pub line : List ℕ

-- a line on standard error
abbrev pub line_of : List ℕ → List ℕ
line_of words = codes "r2: " ++ words ++ codes "\n"

-- a refusal writes its line and nothing else
abbrev pub refusal : Status → List ℕ → Outcome
refusal status words = record { status = status; writes = []; line = line_of words }

-- a number that is exceeded is named by its word
abbrev pub limit_words : (word : List ℕ) → ℕ → List ℕ
limit_words word most = codes "limit " ++ word ++ codes " " ++ decimal most

-- an outcome that prints a text, and has this line
abbrev pub printed : Status → (text line : List ℕ) → Outcome
printed status text line = record {
  status = status;
  writes = record { to = out; text = text } ∷ [];
  line =
      line;
}
