-- Two threads add 1 to a global, under a lock or without one.
use Rattle.std.specs.Prelude.{ℕ, zero, suc, ◌+◌, List, [], ◌∷◌, ◌++◌, Some, None, Bool, false}
use Rattle.run_events.specs.declared.key.Class.{Class}
use Rattle.marks.specs.Ranges.{bytes_of_number}
use Rattle.marks.specs.Marks.{Up, UpRet, Load, Store, Enter, Leave}
use Rattle.marks.specs.Wants.{Outside, Loads, Stores, Enters, Leaves, Calls, Below, UpReturns}
use Rattle.replay_runs.specs.Interface.{Program}
use Rattle.replay_runs_examples.specs.Programs.{calls, returns, whole, Code, always, loaded, frame, program, Doing, Steps, Makes, zeros, spawn, join, lock, unlock, main, worker, to_worker}

-- `int n; int main(void) { int a; int b; a = r2_spawn(worker, 0); b = r2_spawn(worker, 0); r2_join(a);
-- r2_join(b); return 0; }`
abbrev pub main_code : Code
main_code =
    always Outside
    ∷ always (Enters false main [] (zeros 16))
    ∷ always (Calls false spawn (to_worker ∷ 0 ∷ []))
    ∷ always (Below spawn (to_worker ∷ 0 ∷ []))
    ∷ always (Stores None 0x20000000 (1 ∷ 0 ∷ 0 ∷ 0 ∷ []))
    ∷ always (Calls false spawn (to_worker ∷ 0 ∷ []))
    ∷ always (Below spawn (to_worker ∷ 0 ∷ []))
    ∷ always (Stores None 0x20000004 (2 ∷ 0 ∷ 0 ∷ 0 ∷ []))
    ∷ always (Loads None 0x20000000 4)
    ∷ (λ mine. Calls false join (loaded mine ∷ []))
    ∷ (λ mine. Below join (loaded mine ∷ []))
    ∷ always (Loads None 0x20000004 4)
    ∷ (λ mine. Calls false join (loaded mine ∷ []))
    ∷ (λ mine. Below join (loaded mine ∷ []))
    ∷ (λ mine. Leaves (frame mine) 16)
    ∷ always (UpReturns main 0)
    ∷ []

-- `int worker(void *p) { r2_lock(0); n = n + 1; r2_unlock(0); return 0; }`
abbrev pub locking_code : Code
locking_code =
    always Outside
    ∷ always (Enters false worker (0 ∷ []) (zeros 16))
    ∷ always (Calls false lock (0 ∷ []))
    ∷ always (Below lock (0 ∷ []))
    ∷ always (Loads (Some 0) 0x10000000 4)
    ∷ (λ mine. Stores (Some 0) 0x10000000 (bytes_of_number 4 (loaded mine + 1)))
    ∷ always (Calls false unlock (0 ∷ []))
    ∷ always (Below unlock (0 ∷ []))
    ∷ (λ mine. Leaves (frame mine) 16)
    ∷ always (UpReturns worker 0)
    ∷ []

-- `int worker(void *p) { n = n + 1; return 0; }`
abbrev pub racing_code : Code
racing_code =
    always Outside
    ∷ always (Enters false worker (0 ∷ []) (zeros 16))
    ∷ always (Loads (Some 0) 0x10000000 4)
    ∷ (λ mine. Stores (Some 0) 0x10000000 (bytes_of_number 4 (loaded mine + 1)))
    ∷ (λ mine. Leaves (frame mine) 16)
    ∷ always (UpReturns worker 0)
    ∷ []

abbrev pub threads : Code → ℕ → Code
threads code zero = main_code
threads code (suc t) = code

abbrev pub begins : ℕ → ℕ → List Doing
begins t at = Makes t (Up worker (0 ∷ [])) ∷ Steps t (Enter worker (0 ∷ []) at (zeros 16)) ∷ []

abbrev pub adds : ℕ → ℕ → List Doing
adds t n = Steps t (Load (Some 0) 0x10000000 (n ∷ 0 ∷ 0 ∷ 0 ∷ [])) ∷
    Steps t (Store (Some 0) 0x10000000 (suc n ∷ 0 ∷ 0 ∷ 0 ∷ [])) ∷ []

abbrev pub ends : ℕ → ℕ → List Doing
ends t at = Steps t (Leave at 16) ∷ Makes t (UpRet worker 0) ∷ []

-- main spawns both workers, which begin
abbrev pub spawning : List Doing
spawning =
    Makes 0 (Up main [])
    ∷ Steps 0 (Enter main [] 0x20000000 (zeros 16))
    ∷ calls 0 spawn (to_worker ∷ 0 ∷ [])
    ∷ returns 0 spawn (to_worker ∷ 0 ∷ []) 1
    ∷ Steps 0 (Store None 0x20000000 (1 ∷ 0 ∷ 0 ∷ 0 ∷ []))
    ∷ begins 1 0x20010000
    ++ calls 0 spawn (to_worker ∷ 0 ∷ [])
    ∷ returns 0 spawn (to_worker ∷ 0 ∷ []) 2
    ∷ Steps 0 (Store None 0x20000004 (2 ∷ 0 ∷ 0 ∷ 0 ∷ []))
    ∷ begins 2 0x20020000

-- both add under the lock, and main waits for them
abbrev pub locked : List Doing
locked =
    spawning
    ++ Steps 0 (Load None 0x20000000 (1 ∷ 0 ∷ 0 ∷ 0 ∷ []))
    ∷ calls 0 join (1 ∷ [])
    ∷ calls 1 lock (0 ∷ [])
    ∷ returns 1 lock (0 ∷ []) 0
    ∷ adds 1 0
    ++ calls 1 unlock (0 ∷ [])
    ∷ calls 2 lock (0 ∷ [])
    ∷ returns 1 unlock (0 ∷ []) 0
    ∷ returns 2 lock (0 ∷ []) 0
    ∷ adds 2 1
    ++ ends 1 0x20010000
    ++ calls 2 unlock (0 ∷ [])
    ∷ returns 0 join (1 ∷ []) 0
    ∷ Steps 0 (Load None 0x20000004 (2 ∷ 0 ∷ 0 ∷ 0 ∷ []))
    ∷ calls 0 join (2 ∷ [])
    ∷ returns 2 unlock (0 ∷ []) 0
    ∷ ends 2 0x20020000
    ++ returns 0 join (2 ∷ []) 0
    ∷ Steps 0 (Leave 0x20000000 16)
    ∷ Makes 0 (UpRet main 0)
    ∷ []

-- the first worker adds without a lock, and the second is about to
abbrev pub unlocked : List Doing
unlocked = spawning ++ adds 1 0 ++ Steps 1 (Leave 0x20010000 16) ∷ []

abbrev pub second_load : Doing
second_load = Steps 2 (Load (Some 0) 0x10000000 (1 ∷ 0 ∷ 0 ∷ 0 ∷ []))

abbrev pub locking : (Class → Bool) → Program
locking has = program has (threads locking_code)

abbrev pub racing : Program
racing = program whole (threads racing_code)
