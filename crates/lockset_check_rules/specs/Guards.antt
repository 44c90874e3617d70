-- What a source says of mutexes, and what is found at a name.
use Rattle.std.specs.Prelude.{ℕ, ℤ, ◌-◌, Bool, true, false, if◌then◌else◌, List, [], ◌∷◌, Option, Some, None, slice_get}
use Rattle.c_builtins.specs.Table.{first_source_function}
use Rattle.c_types_rules.specs.Sources.{Function, Global}
use Rattle.lockset_check_rules.specs.declared.mention.Mention.{Mention}
use Rattle.lockset_check_rules.specs.declared.finding.LockFinding.{LockFinding}
use Rattle.lockset_check_rules.specs.declared.finding.LockFinding.TheVariants.{Unheld, Address}
use Rattle.lockset_check_rules.specs.Mutexes.{Locks, are_held, is_held}

-- the functions of a source by number less that of the first, its globals by place, the mutex that guards a
-- global, and those that the callers of a function hold
pub record Guarded : Type 0 where
  pub functions : List Function
  pub globals : List Global
  pub guard : (place : ℕ) → Option ℤ
  pub holds : (number : ℕ) → List ℤ

abbrev name_of_global : Option Global → List ℕ
name_of_global (Some g) = g.name
name_of_global None = []

abbrev name_of_function : Option Function → List ℕ
name_of_function (Some f) = f.name
name_of_function None = []

abbrev pub global_name : Guarded → (place : ℕ) → List ℕ
global_name r place = name_of_global (slice_get r.globals place)

abbrev pub function_name : Guarded → (number : ℕ) → List ℕ
function_name r number = name_of_function (slice_get r.functions (number - first_source_function))

-- a guarded global whose mutex isn't held
abbrev pub unheld : Guarded → Mention → Locks → List LockFinding
unheld r m s = elim (r.guard m.place) [
  | Some k ↦ if is_held k s then [] else Unheld m.from (global_name r m.place) ∷ []
  | None ↦ []
]

-- the same of a mention, if any
abbrev pub unheld_at : Guarded → Option Mention → Locks → List LockFinding
unheld_at r (Some m) s = unheld r m s
unheld_at r None s = []

-- a guarded global to which a pointer is made
abbrev pub address : Guarded → Option Mention → List LockFinding
address r (Some m) = elim (r.guard m.place) [
  | Some k ↦ Address m.from (global_name r m.place) ∷ []
  | None ↦ []
]
address r None = []

abbrev pub is_empty : List ℤ → Bool
is_empty [] = true
is_empty (k ∷ ks) = false

-- a function whose callers hold a mutex, named at this offset other than as called
abbrev pub function_address : Guarded → (from number : ℕ) → List LockFinding
function_address r from number = if is_empty (r.holds number) then [] else
    Address from (function_name r number) ∷ []

-- a function whose callers hold a mutex that isn't held, called at this offset
abbrev pub called_unheld : Guarded → (from number : ℕ) → Locks → List LockFinding
called_unheld r from number s = if are_held (r.holds number) s then [] else
    Unheld from (function_name r number) ∷ []
