-- Calls that came to their results, as they are told, and what one does to a mutex.
use Rattle.std.specs.Prelude.{ℕ, Bool, false, ◌&&◌, if◌then◌else◌, ◌==◌, List, [], ◌∷◌, Option, Some, None}
use Rattle.c_builtins.specs.declared.builtin.Builtin.TheVariants.{Lock, Unlock}
use Rattle.c_builtins.specs.Table.{number_of}
use Rattle.lockset_check_laws.specs.Locks.{is_that}
use Rattle.whole_runs.specs.Outcomes.{Outcome, outcome}
use Rattle.reference_recorder_outcomes.specs.declared.results.Outcome.{Outcome as Told}

abbrev pub outcome_of : Told → Outcome
outcome_of o = outcome o.thread o.func o.args.now o.result

abbrev pub some_outcome : Option Told → Option Outcome
some_outcome None = None
some_outcome (Some o) = Some (outcome_of o)

-- there is one, and it is so
abbrev pub holds_of : (Outcome → Bool) → Option Outcome → Bool
holds_of p None = false
holds_of p (Some o) = p o

-- who holds the mutex after a call of the thread, where `held` held it before: a lock takes it, and an unlock
-- by its holder frees it
abbrev pub held_after : (mutex thread func : ℕ) → (args : List ℕ) → (held : Option ℕ) → Option ℕ
held_after k t f [] h = h
held_after k t f (i ∷ j ∷ is) h = h
held_after k t f (j ∷ []) h = if j == k then (if f == number_of Lock then Some t
    else if f == number_of Unlock && is_that h t then None else h) else h
