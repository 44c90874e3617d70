-- What a list of checks finds, as a value of this crate says it.
use Rattle.std.specs.Prelude.{Option, Some, None}
use Rattle.replay_runs.specs.Checks.{Checks, FaultFound, BreachFound, Finds, Passes}
use Rattle.replay_runs.specs.Checks as checks
use Rattle.reference_recorder_findings.specs.declared.finding.Finding.{Finding}
use Rattle.reference_recorder_findings.specs.declared.finding.Finding.TheVariants.{Fault, Breach}

-- the finding that a value stands for
abbrev pub finding_of : Finding → checks.Finding
finding_of (Fault kind) = FaultFound kind
finding_of (Breach kind x other) = BreachFound kind x other

-- the first check that fails finds this; where there is none, all pass
abbrev pub IsFound : Checks → Option Finding → Type 0
IsFound cs None = Passes cs
IsFound cs (Some f) = Finds cs (finding_of f)
