-- The lines that say what is found.
use Rattle.std.specs.Prelude.{ℕ, List, ◌++◌, codes, decimal}
use Rattle.lockset_check_rules.specs.declared.finding.LockFinding.{LockFinding}
use Rattle.lockset_check_rules.specs.declared.finding.LockFinding.TheVariants.{Unheld, Address, NotConstant, UnlockUnheld, LoopLocks, ReturnLocks}

-- a word, and the offset in bytes
abbrev placed : (word : List ℕ) → (from : ℕ) → List ℕ
placed word from = word ++ codes " " ++ decimal from

-- and then the name that stands there
abbrev named : (word : List ℕ) → (from : ℕ) → (name : List ℕ) → List ℕ
named word from name = placed word from ++ codes " " ++ name

abbrev pub line_of : LockFinding → List ℕ
line_of (Unheld from name) = named (codes "unheld") from name
line_of (Address from name) = named (codes "address") from name
line_of (NotConstant from) = placed (codes "notconstant") from
line_of (UnlockUnheld from) = placed (codes "unlockunheld") from
line_of (LoopLocks from) = placed (codes "looplocks") from
line_of (ReturnLocks from) = placed (codes "returnlocks") from
