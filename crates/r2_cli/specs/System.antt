-- The stage that reads a system file for an accepted source.
use Rattle.std.specs.Prelude.{ℕ, List, codes}
use Rattle.r2_cli_outcome.specs.Reading.{Reading}
use Rattle.r2_cli_outcome.specs.Stages.{Stage, ◌>>=◌}
use Rattle.r2_cli_outcome.specs.Input.{Input, most_system_bytes}
use Rattle.recorded_outcome.specs.Stages.{SystemOf}

-- the reading of a system file, its size and its lines, for the source that these bytes are
abbrev pub system : Reading → (sys cut bytes : List ℕ) → Stage (List ℕ)
system reading sys cut bytes = Input reading sys (codes "system") most_system_bytes >>= SystemOf cut bytes
