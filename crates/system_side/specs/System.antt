-- The system side of a run, after the calls so far.
use Rattle.std.specs.Prelude.{ℕ, ℤ, Bool, false, List, Option, Some, None, ◌==◌}
use Rattle.std.specs.Ordering.{int_cmp}
use Rattle.std.specs.BTreeMap.{is_at}
use Rattle.std.specs.Map.{lookup}
use Rattle.system_side.specs.declared.threads.Standing.{Standing}

-- the schedule, where each started thread stands, which thread holds each mutex that is held, and for each
-- function the
-- places of its answers that are left
pub record SystemState : Type 0 where
  pub schedule : List (ℕ × ℕ)
  pub threads : List Standing
  pub held : List (ℤ × ℕ)
  pub left : List (List ℕ)

-- the thread that holds a mutex
abbrev pub holder : List (ℤ × ℕ) → ℤ → Option ℕ
holder held m = lookup (is_at (int_cmp m)) held

abbrev pub is_thread : ℕ → Option ℕ → Bool
is_thread thread None = false
is_thread thread (Some other) = other == thread

-- whether the thread holds the mutex
abbrev pub holds : List (ℤ × ℕ) → ℕ → ℤ → Bool
holds held thread m = is_thread thread (holder held m)
