-- The last part of a call, for the code.
use Rattle.std.specs.Prelude.{◌≡◌, ◌≤◌, [], ℕ, List, length, take, codes, Result, Ok, Err}
use Rattle.r2_base.specs.Causes.{Rose}
use Rattle.r2_base.specs.Seen.{Stream}
use Rattle.r2_base.specs.declared.fault.Fault.{Fault}
use Rattle.r2_base.specs.declared.fault.Fault.TheVariants.{Failed, Missing, Memory}
use Rattle.r2_cli_outcome.specs.declared.plan.End.{End}
use Rattle.r2_cli_outcome.specs.declared.plan.End.TheVariants as end
use Rattle.r2_cli_outcome.specs.declared.plan.Plan.{Plan}
use Rattle.r2_cli_outcome.specs.declared.status.Status.{Status}
use Rattle.r2_cli_outcome.specs.declared.status.Status.TheVariants.{ReadFault, WriteFault, NoMemory}
use Rattle.r2_cli_outcome.specs.World.{World}
use Rattle.r2_cli_outcome.specs.Outcome.{line_of}
use Rattle.r2_cli_outcome.specs.After.{Adds}
use Rattle.r2_cli_outcome.specs.Left.{Leaves, Says}
use Rattle.r2_cli_outcome.specs.Plans.{outcome_of}

-- what saying a line leaves on standard error
pub data Said (line : List ℕ) (status : Status) (old new : Stream) : Status → Type 0 where
  in_full : Adds old.given new.given line → Said line status old new status
  refused : {n : ℕ} → n ≤ length line → Rose old.faults new.faults →
      Adds old.given new.given (take n line) → Said line status old new WriteFault
  cut : {n : ℕ} → n ≤ length line → Adds old.given new.given (take n line) →
      Said line status old new NoMemory

-- the status and the line for a refused write
abbrev pub status_for : Fault → Status
status_for Failed = WriteFault
status_for Missing = WriteFault
status_for Memory = NoMemory

abbrev pub line_for : Fault → List ℕ
line_for Failed = line_of (codes "write fault")
line_for Missing = line_of (codes "write fault")
line_for Memory = line_of (codes "no memory")

-- what the last part of a call leaves, by the plan or end that the first part came to
pub data Finishes (old new : World) (result : Status) : Result Plan End → Type 0 where
  planned : {plan : Plan} → Leaves (λ o. o ≡ outcome_of plan) old new result →
      Finishes old new result (Ok plan)
  refusal : {plan : Plan} → Leaves (λ o. o ≡ outcome_of plan) old new result →
      Finishes old new result (Err (end.Planned plan))
  unread : Says old new [] ReadFault (line_of (codes "read fault")) result →
      Finishes old new result (Err end.ReadFault)
  no_memory : Says old new [] NoMemory (line_of (codes "no memory")) result →
      Finishes old new result (Err end.NoMemory)
