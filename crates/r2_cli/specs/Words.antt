-- The forms of the command line.
use Rattle.std.specs.Prelude.{◌≡◌, ◌≢◌, ◌≤◌, List, [], ◌∷◌, ℕ, String, codes, decimal, map, string_bytes, Option, Some, None}
use Rattle.std.specs.declared.alloc.Global.{Global}

-- the words as lists of bytes
abbrev pub texts_of : List (String Global) → List (List ℕ)
texts_of words = map string_bytes words

-- a command with the names of its files and of its cut, or with its number of rounds; `recording` is `record`
pub data Form : Type 0 where
  help : Form
  version : Form
  order : (log : List ℕ) → Form
  check : (src cut : List ℕ) → Form
  stubs : (src cut : List ℕ) → Form
  gen : (rounds : ℕ) → (src sys : List ℕ) → Form
  recording : (src cut sys log rep : List ℕ) → Form

-- the command line, without the name of the program
abbrev pub words_of : Form → List (List ℕ)
words_of help = codes "--help" ∷ []
words_of version = codes "--version" ∷ []
words_of (order log) = codes "order" ∷ log ∷ []
words_of (check src cut) = codes "check" ∷ src ∷ cut ∷ []
words_of (stubs src cut) = codes "stubs" ∷ src ∷ cut ∷ []
words_of (gen rounds src sys) = codes "gen" ∷ decimal rounds ∷ src ∷ sys ∷ []
words_of (recording src cut sys log rep) = codes "record" ∷ src ∷ cut ∷ sys ∷ log ∷ rep ∷ []

-- the two files of a generated program have names, and not the same one, and it makes 1 to 40,000 rounds
pub record CanGenerate (rounds : ℕ) (src sys : List ℕ) : Type 0 where
  pub some : 1 ≤ rounds
  pub few : rounds ≤ 40000
  pub source : src ≢ []
  pub system : sys ≢ []
  pub apart : src ≢ sys

-- the four files of a recording have names, and no two the same one
pub record CanRecord (src sys log rep : List ℕ) : Type 0 where
  pub has_source : src ≢ []
  pub has_system : sys ≢ []
  pub has_log : log ≢ []
  pub has_report : rep ≢ []
  pub source_system : src ≢ sys
  pub source_log : src ≢ log
  pub source_report : src ≢ rep
  pub system_log : sys ≢ log
  pub system_report : sys ≢ rep
  pub log_report : log ≢ rep

-- no name of a file is empty; any word is the name of a cut
abbrev pub HasNames : Form → Type 0
HasNames help = Unit {0}
HasNames version = Unit {0}
HasNames (order log) = log ≢ []
HasNames (check src cut) = src ≢ []
HasNames (stubs src cut) = src ≢ []
HasNames (gen rounds src sys) = CanGenerate rounds src sys
HasNames (recording src cut sys log rep) = CanRecord src sys log rep

-- the words have the form
abbrev pub IsForm : List (List ℕ) → Form → Type 0
IsForm words form = (words ≡ words_of form) × HasNames form

-- the words have none of the forms
abbrev pub IsUsage : List (List ℕ) → Type 0
IsUsage words = (form : Form) → IsForm words form → ⊥

-- the source that the command reads, and its cut
abbrev pub source_of : Form → Option (List ℕ × List ℕ)
source_of help = None
source_of version = None
source_of (order log) = None
source_of (check src cut) = Some (src, cut)
source_of (stubs src cut) = Some (src, cut)
source_of (gen rounds src sys) = None
source_of (recording src cut sys log rep) = Some (src, cut)

-- the log that it reads
abbrev pub log_of : Form → Option (List ℕ)
log_of help = None
log_of version = None
log_of (order log) = Some log
log_of (check src cut) = None
log_of (stubs src cut) = None
log_of (gen rounds src sys) = None
log_of (recording src cut sys log rep) = None

-- the system file that it reads
abbrev pub system_of : Form → Option (List ℕ)
system_of help = None
system_of version = None
system_of (order log) = None
system_of (check src cut) = None
system_of (stubs src cut) = None
system_of (gen rounds src sys) = None
system_of (recording src cut sys log rep) = Some sys

-- all files that it reads, in their order
abbrev pub inputs_of : Form → List (List ℕ)
inputs_of help = []
inputs_of version = []
inputs_of (order log) = log ∷ []
inputs_of (check src cut) = src ∷ []
inputs_of (stubs src cut) = src ∷ []
inputs_of (gen rounds src sys) = []
inputs_of (recording src cut sys log rep) = src ∷ sys ∷ []

-- all files that it writes
abbrev pub outputs_of : Form → List (List ℕ)
outputs_of help = []
outputs_of version = []
outputs_of (order log) = []
outputs_of (check src cut) = []
outputs_of (stubs src cut) = []
outputs_of (gen rounds src sys) = src ∷ sys ∷ []
outputs_of (recording src cut sys log rep) = log ∷ rep ∷ []
