-- Which functions may run.
use Rattle.std.specs.Prelude.{ℕ, ◌-◌, Bool, false, nat_lt, if◌then◌else◌, List, Option, Some, None, slice_get}
use Rattle.c_builtins.specs.Table.{first_source_function}

abbrev flag : Option Bool → Bool
flag (Some b) = b
flag None = false

-- those of a source that have a flag in its order; no builtins
abbrev pub runs_by : List Bool → (number : ℕ) → Bool
runs_by flags number =
    if nat_lt number first_source_function then false
    else flag (slice_get flags (number - first_source_function))
