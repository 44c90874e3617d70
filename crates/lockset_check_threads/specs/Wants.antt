-- What a thread may want where it keeps its locks, as a look back on its own marks, the newest first.
use Rattle.std.specs.Prelude.{◌≡◌, ℕ, List, [], ◌∷◌, Option, Some, option_map}
use Rattle.marks.specs.declared.side.Side.{Side}
use Rattle.marks.specs.declared.side.Side.TheVariants.{Replay}
use Rattle.marks.specs.Marks.{Mark}
use Rattle.marks.specs.Wants.{Want, Outside, Turns, Loads, Stores, Enters, Leaves, Allocs, Frees, Calls, Below, Gives, Returns, CallsBack, UpReturns, Steps, Fails}
use Rattle.c_code.specs.Values.{written}
use Rattle.c_builtins.specs.declared.builtin.Builtin.TheVariants.{Lock, Unlock}
use Rattle.c_builtins.specs.Table.{number_of}
use Rattle.lockset_check_rules.specs.Guards.{Guarded}
use Rattle.lockset_check_laws.specs.Locks.{LockCalls, taken}
use Rattle.lockset_check_laws.specs.Held.{HeldWant}

-- the builtins that lock and unlock
abbrev pub calls : LockCalls
calls = record { lock = number_of Lock; unlock = number_of Unlock }

-- the mutex that guards a global, as the pattern that marks have of it
abbrev pub guard_of : Guarded → (place : ℕ) → Option ℕ
guard_of r place = option_map written (r.guard place)

-- a Call above the cut unlocks only what the thread took there
abbrev pub UnlocksOwn : List Mark → Want → Type 0
UnlocksOwn mine (Calls indirect f (k ∷ [])) = f ≡ calls.unlock → taken calls k mine ≡ Some Replay
UnlocksOwn mine (Calls indirect f []) = Unit {0}
UnlocksOwn mine (Calls indirect f (j ∷ k ∷ ks)) = Unit {0}
UnlocksOwn mine Outside = Unit {0}
UnlocksOwn mine Turns = Unit {0}
UnlocksOwn mine (Loads origin at width) = Unit {0}
UnlocksOwn mine (Stores origin at bytes) = Unit {0}
UnlocksOwn mine (Enters indirect f args bytes) = Unit {0}
UnlocksOwn mine (Leaves at size) = Unit {0}
UnlocksOwn mine (Allocs size) = Unit {0}
UnlocksOwn mine (Frees at) = Unit {0}
UnlocksOwn mine (Below f args) = Unit {0}
UnlocksOwn mine (Gives f args) = Unit {0}
UnlocksOwn mine (Returns f args result) = Unit {0}
UnlocksOwn mine (CallsBack f args bytes) = Unit {0}
UnlocksOwn mine (UpReturns f result) = Unit {0}
UnlocksOwn mine (Steps indirect f args) = Unit {0}
UnlocksOwn mine (Fails kind) = Unit {0}

-- a thread with these marks may want this: it touches a guarded global only on the side on which it took the
-- guard, and unlocks on either side only what it took there
pub record KeepsLocks (r : Guarded) (side : Side) (mine : List Mark) (want : Want) : Type 0 where
  pub touches : HeldWant calls (guard_of r) side mine want
  pub unlocks : UnlocksOwn mine want
