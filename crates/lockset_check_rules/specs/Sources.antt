-- What is found in a whole source.
use Rattle.std.specs.Prelude.{ℕ, suc, Bool, false, ◌||◌, if◌then◌else◌, is_some, List, [], ◌∷◌, ◌++◌, Option, Some, None}
use Rattle.c_builtins.specs.Table.{first_source_function}
use Rattle.c_types_rules.specs.TypedTree.{Body}
use Rattle.c_types_rules.specs.Initials.{Known, Number, AddressOfText, AddressOfGlobal, AddressOfFunction, Initial, Initials, Scalar, Bytes, Listed, NoInitials, MoreInitials}
use Rattle.c_types_rules.specs.Sources.{Function, Global}
use Rattle.lockset_check_rules.specs.declared.finding.LockFinding.{LockFinding}
use Rattle.lockset_check_rules.specs.Mutexes.{locks_of}
use Rattle.lockset_check_rules.specs.Guards.{Guarded, function_address}
use Rattle.lockset_check_rules.specs.After.{statement_after}
use Rattle.lockset_check_rules.specs.Statements.{Within, return_differs_at, statement_found}

-- ---- functions that may run

-- a body begins with what its callers hold
abbrev pub body_found : Guarded → (number : ℕ) → Body → List LockFinding
body_found r number b =
    let start = locks_of (r.holds number) in
    let w : Within = record { start = start; loop = None } in
    statement_found r w b.statements start ++
    return_differs_at w b.from (statement_after b.statements start)

abbrev maybe_body_found : Guarded → (number : ℕ) → Option Body → List LockFinding
maybe_body_found r number (Some b) = body_found r number b
maybe_body_found r number None = []

-- in the functions from a number on
abbrev pub functions_found : Guarded → (may_run : ℕ → Bool) → (number : ℕ) → List Function → List LockFinding
functions_found r may_run number [] = []
functions_found r may_run number (f ∷ fs) =
    (if may_run number then maybe_body_found r number f.body else []) ++
    functions_found r may_run (suc number) fs

-- ---- the values of all globals

abbrev pub known_found : Guarded → Known → List LockFinding
known_found r (Number n) = []
known_found r (AddressOfText from) = []
known_found r (AddressOfGlobal place) = []
known_found r (AddressOfFunction from number) = function_address r from number

abbrev mutual
  pub initial_found : Guarded → Initial → List LockFinding
  initial_found r (Scalar k) = known_found r k
  initial_found r (Bytes bytes) = []
  initial_found r (Listed xs) = initials_found r xs

  pub initials_found : Guarded → Initials → List LockFinding
  initials_found r NoInitials = []
  initials_found r (MoreInitials x xs) = initial_found r x ++ initials_found r xs

abbrev maybe_initial_found : Guarded → Option Initial → List LockFinding
maybe_initial_found r (Some x) = initial_found r x
maybe_initial_found r None = []

abbrev pub globals_found : Guarded → List Global → List LockFinding
globals_found r [] = []
globals_found r (g ∷ gs) = maybe_initial_found r g.value ++ globals_found r gs

-- ---- the whole source

-- one of the globals from a place on is guarded
abbrev pub is_any_guarded : Guarded → (place : ℕ) → List Global → Bool
is_any_guarded r place [] = false
is_any_guarded r place (g ∷ gs) = is_some (r.guard place) || is_any_guarded r (suc place) gs

-- a source without guarded globals has no discipline to break
abbrev pub source_found : Guarded → (may_run : ℕ → Bool) → List LockFinding
source_found r may_run =
    if is_any_guarded r 0 r.globals then
    functions_found r may_run first_source_function r.functions ++
    globals_found r r.globals
    else []
