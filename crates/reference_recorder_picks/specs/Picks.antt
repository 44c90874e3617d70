-- What is computed on the way to the thread that makes the next step.
use Rattle.std.specs.Prelude.{ℕ, Bool, if◌then◌else◌, List, [], ◌∷◌, Option, Some, None}
use Rattle.marks.specs.Marks.{Mark}
use Rattle.c_builtins.specs.declared.builtin.Builtin.{Builtin}
use Rattle.whole_runs.specs.World.{World}
use Rattle.whole_runs.specs.Picks.{is_free, is_other}

-- the number, where it is one of another started thread
abbrev pub other_of : List Mark → (thread number : ℕ) → Option ℕ
other_of past t k = if is_other past t k then Some k else None

-- whether a thread gets on with its call of the builtin with this first argument
abbrev pub free_by : World → List Mark → (thread argument : ℕ) → Builtin → Bool
free_by w past t k b = is_free w past t (k ∷ []) (Some b)
