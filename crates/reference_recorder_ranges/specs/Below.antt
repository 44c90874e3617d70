-- The checks of a range that code below the cut reads or writes, one by one.
use Rattle.std.specs.Prelude.{◌≡◌, ℕ, Bool, true, List, None}
use Rattle.marks.specs.declared.fault.FaultKind.TheVariants.{NotLive}
use Rattle.marks.specs.declared.breach.BreachKind.TheVariants.{OtherSpace}
use Rattle.marks.specs.declared.range.Range.{Range}
use Rattle.marks.specs.Ranges.{covers}
use Rattle.marks.specs.Marks.{Mark}
use Rattle.replay_runs.specs.Checks.{Checks, Check, is_breach_found, is_fault_found}
use Rattle.whole_runs.specs.World.{World}
use Rattle.whole_runs.specs.Below.{IsForbidden}
use Rattle.whole_runs.specs.Memory.{real}

-- it keeps out of memory that isn't its own
abbrev pub forbidden_check : World → List Mark → (thread : ℕ) → (write : Bool) → Range → Checks → Checks
forbidden_check w past t write r cs =
    Check (λ x. (covers r x ≡ true) × IsForbidden w past t write x) (is_breach_found OtherSpace) cs

-- what it touches is live
abbrev pub lost_check : World → List Mark → Range → Checks → Checks
lost_check w past r cs = Check (λ x. (covers r x ≡ true) × (real w past x ≡ None)) (is_fault_found NotLive) cs
