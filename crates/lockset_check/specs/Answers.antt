-- What the check answers.
use Rattle.std.specs.Prelude.{◌≡◌, ◌≢◌, ◌+◌, List, [], length, map, Result, Ok, Err}
use Rattle.std.specs.List.{range_with_len}
use Rattle.c_builtins.specs.Table.{first_source_function}
use Rattle.c_types_program.specs.Declarations.{Declared}
use Rattle.annot_reader.specs.Interface.{Interface}
use Rattle.annot_reader.specs.Interfaces.{guard_at, holds_at}
use Rattle.lockset_check_rules.specs.declared.finding.LockFinding.{LockFinding}
use Rattle.lockset_check_rules.specs.Guards.{Guarded}
use Rattle.lockset_check_rules.specs.Order.{AreSorted}
use Rattle.lockset_check_values.specs.Sayings.{Sayings}
use Rattle.lockset_check_values.specs.Setting.{guarded, setting}
use Rattle.lockset_check.specs.declared.error.GuardError.{GuardError}
use Rattle.lockset_check.specs.declared.error.GuardError.TheVariants.{Findings, Memory}

-- what an interface says of each global and each function of a program
abbrev pub sayings_of : Declared → Interface → Sayings
sayings_of p i = record {
  guards = map (guard_at i) (range_with_len 0 (length p.globals));
  holds = map (λ place. holds_at i (first_source_function + place)) (range_with_len 0 (length p.functions));
}

abbrev pub guarded_by : Declared → Interface → Guarded
guarded_by p i = guarded (setting p (sayings_of p i))

-- nothing, or all of these findings; of memory nothing is said
abbrev pub AreGiven : List LockFinding → Result (Unit {0}) GuardError → Type 0
AreGiven found (Ok done) = found ≡ []
AreGiven found (Err (Findings fs)) = (fs.items ≡ found) × (found ≢ [])
AreGiven found (Err Memory) = Unit {0}

-- the same in the order of lines, each once
abbrev pub Answers : List LockFinding → Result (Unit {0}) GuardError → Type 0
Answers found (Ok done) = found ≡ []
Answers found (Err (Findings fs)) = AreSorted found fs.items × (found ≢ [])
Answers found (Err Memory) = Unit {0}
