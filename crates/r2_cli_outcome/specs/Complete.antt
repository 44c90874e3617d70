-- Calls that leave their outcome as a whole.
use Rattle.std.specs.Prelude.{◌≡◌, ◌++◌, [], ◌∷◌}
use Rattle.r2_base.specs.Causes.{Rose}
use Rattle.r2_cli_outcome.specs.declared.status.Status.{Status}
use Rattle.r2_cli_outcome.specs.World.{World}
use Rattle.r2_cli_outcome.specs.Outcome.{Target, Outcome, err}
use Rattle.r2_cli_outcome.specs.After.{After}
use Rattle.r2_cli_outcome.specs.Left.{faults_at}

-- no count of faults rose
pub record IsQuiet (old new : World) : Type 0 where
  pub reads : Rose old.files.read_faults new.files.read_faults → ⊥
  pub writes : (t : Target) → Rose (faults_at t old) (faults_at t new) → ⊥

-- one of these outcomes is left as a whole: its status, all its writes, and its line
pub record LeavesAll (answers : Outcome → Type 0) (old new : World) (result : Status) : Type 0 where
  pub outcome : Outcome
  pub answer : answers outcome
  pub status : result ≡ outcome.status
  pub after : After (outcome.writes ++ record { to = err; text = outcome.line } ∷ []) old new
