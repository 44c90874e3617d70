-- What a source says of mutexes, as plain data.
use Rattle.std.specs.Prelude.{ℕ, ℤ, ◌-◌, nat_lt, if◌then◌else◌, List, [], map, Option, Some, None, slice_get}
use Rattle.c_builtins.specs.Table.{first_source_function}
use Rattle.lockset_check_rules.specs.Mutexes.{Locks, locks_of}

-- by place the mutex that guards a global, if one does, and the mutexes that the callers of a function hold, by its
-- number less that of the first
pub record Sayings : Type 0 where
  pub guards : List (Option ℤ)
  pub holds : List (List ℤ)

abbrev pub guarding : Option (Option ℤ) → Option ℤ
guarding (Some k) = k
guarding None = None

abbrev pub held : Option (List ℤ) → List ℤ
held (Some ks) = ks
held None = []

abbrev pub guard_in : Sayings → (place : ℕ) → Option ℤ
guard_in s place = guarding (slice_get s.guards place)

-- builtins hold nothing
abbrev pub holds_in : Sayings → (number : ℕ) → List ℤ
holds_in s number =
    if nat_lt number first_source_function then []
    else held (slice_get s.holds (number - first_source_function))

-- the sets that functions need, in their order
abbrev pub needs_of : Sayings → List Locks
needs_of s = map locks_of s.holds
