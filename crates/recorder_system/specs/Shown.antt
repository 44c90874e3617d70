-- What a system tells of a thread's call, from its own state.
use Rattle.std.specs.Prelude.{ℕ, ℤ, if◌then◌else◌, ltb, length, Option, Some, None, is_some}
use Rattle.marks.specs.Places.{thread_count}
use Rattle.c_builtins.specs.declared.builtin.Builtin.{Builtin}
use Rattle.c_builtins.specs.declared.builtin.Builtin.TheVariants.{Malloc, Free, Spawn, Join, Lock, Unlock, Print}
use Rattle.c_code.specs.Values.{written}
use Rattle.system_side.specs.declared.threads.Wait.{Wait}
use Rattle.system_side.specs.declared.threads.Wait.TheVariants.{Mutex, Thread}
use Rattle.system_side.specs.Threads.{joined}
use Rattle.system_side.specs.System.{SystemState, holder, holds}
use Rattle.whole_runs.specs.Outcomes.{minus_one}
use Rattle.recorder_system.specs.declared.given.Given.{Given}
use Rattle.recorder_system.specs.declared.given.Given.TheVariants.{ByPool, Value}
use Rattle.recorder_system.specs.Stands.{int_of}

-- what the call of a thread has to wait for
abbrev pub wait_for : SystemState → (thread : ℕ) → (arg : ℤ) → Option Builtin → Option Wait
wait_for s t m (Some Malloc) = None
wait_for s t m (Some Free) = None
wait_for s t m (Some Spawn) = None
wait_for s t m (Some Join) = if is_some (joined s.threads t m) then None else Some (Thread m)
wait_for s t m (Some Lock) = if is_some (holder s.held m) then Some (Mutex m) else None
wait_for s t m (Some Unlock) = None
wait_for s t m (Some Print) = None
wait_for s t m None = None

-- what a thread is given that starts another one, that joins one, that unlocks a mutex
abbrev pub spawned_in : SystemState → ℕ
spawned_in s = if ltb (length s.threads) thread_count then length s.threads else minus_one

abbrev pub written_or_zero : Option ℤ → ℕ
written_or_zero (Some v) = written v
written_or_zero None = 0

abbrev pub joined_in : SystemState → (thread : ℕ) → (arg : ℕ) → ℕ
joined_in s t k = written_or_zero (joined s.threads t (int_of k))

abbrev pub unlocked_in : SystemState → (thread : ℕ) → (arg : ℕ) → ℕ
unlocked_in s t k = if holds s.held t (int_of k) then 0 else minus_one

abbrev pub given_in : SystemState → (thread : ℕ) → (arg : ℕ) → Builtin → Given
given_in s t k Malloc = ByPool
given_in s t k Free = ByPool
given_in s t k Spawn = Value (spawned_in s)
given_in s t k Join = Value (joined_in s t k)
given_in s t k Lock = Value 0
given_in s t k Unlock = Value (unlocked_in s t k)
given_in s t k Print = Value 0
