-- Runs that end with a fault, and returns that are written once.
use Rattle.std.specs.Prelude.{ℕ, zero, suc, List, [], ◌∷◌, ◌++◌, Some, None, Bool, true, false}
use Rattle.run_events.specs.declared.key.Class.{Class}
use Rattle.marks.specs.declared.fault.FaultKind.TheVariants.{NotLive, ReadOnly}
use Rattle.marks.specs.Ranges.{range}
use Rattle.marks.specs.Marks.{NoRegion, Reading, Writing, Ret, Up, UpRet, Alloc, Free, Stop, Load, Store, Enter, Leave, Fault}
use Rattle.marks.specs.Wants.{Outside, Loads, Stores, Enters, Leaves, Allocs, Frees, Calls, Below, UpReturns}
use Rattle.replay_runs.specs.Interface.{Program}
use Rattle.replay_runs_examples.specs.Programs.{Code, always, loaded, frame, program, whole, Doing, Steps, Makes, calls, returns, zeros, spawn, join, print, main, worker, now, to_worker}

-- the bytes of a pointer to the pool's first byte
abbrev pub pointer : List ℕ
pointer = 0 ∷ 0 ∷ 0 ∷ 0x30 ∷ 0 ∷ 0 ∷ 0 ∷ 0 ∷ []

-- `char *p; int main(void) { int t; p = r2_malloc(16); t = r2_spawn(worker, 0); r2_join(t); return *p; }`
abbrev pub main_code : Code
main_code =
    always Outside
    ∷ always (Enters false main [] (zeros 16))
    ∷ always (Allocs 16)
    ∷ always (Stores (Some 0) 0x10000000 pointer)
    ∷ always (Calls false spawn (to_worker ∷ 0 ∷ []))
    ∷ always (Below spawn (to_worker ∷ 0 ∷ []))
    ∷ always (Stores None 0x20000000 (1 ∷ 0 ∷ 0 ∷ 0 ∷ []))
    ∷ always (Loads None 0x20000000 4)
    ∷ (λ mine. Calls false join (loaded mine ∷ []))
    ∷ (λ mine. Below join (loaded mine ∷ []))
    ∷ always (Loads (Some 0) 0x10000000 8)
    ∷ (λ mine. Loads None (loaded mine) 1)
    ∷ (λ mine. Loads None (loaded mine) 1)
    ∷ []

-- `int worker(void *q) { r2_free(p); return 0; }`
abbrev pub freeing_code : Code
freeing_code =
    always Outside
    ∷ always (Enters false worker (0 ∷ []) (zeros 16))
    ∷ always (Loads (Some 0) 0x10000000 8)
    ∷ (λ mine. Frees (loaded mine))
    ∷ (λ mine. Leaves (frame mine) 16)
    ∷ always (UpReturns worker 0)
    ∷ []

abbrev pub freed_code : ℕ → Code
freed_code zero = main_code
freed_code (suc t) = freeing_code

abbrev pub freeing : (Class → Bool) → Program
freeing has = program has freed_code

-- the worker frees the block that main then reads
abbrev pub freed : List Doing
freed =
    Makes 0 (Up main [])
    ∷ Steps 0 (Enter main [] 0x20000000 (zeros 16))
    ∷ Makes 0 (Alloc 0x30000000 16)
    ∷ Steps 0 (Store (Some 0) 0x10000000 pointer)
    ∷ calls 0 spawn (to_worker ∷ 0 ∷ [])
    ∷ returns 0 spawn (to_worker ∷ 0 ∷ []) 1
    ∷ Steps 0 (Store None 0x20000000 (1 ∷ 0 ∷ 0 ∷ 0 ∷ []))
    ∷ Makes 1 (Up worker (0 ∷ []))
    ∷ Steps 1 (Enter worker (0 ∷ []) 0x20010000 (zeros 16))
    ∷ Steps 1 (Load (Some 0) 0x10000000 pointer)
    ∷ Makes 1 (Free 0x30000000 16)
    ∷ Steps 1 (Leave 0x20010000 16)
    ∷ Makes 1 (UpRet worker 0)
    ∷ Steps 0 (Load None 0x20000000 (1 ∷ 0 ∷ 0 ∷ 0 ∷ []))
    ∷ calls 0 join (1 ∷ [])
    ∷ returns 0 join (1 ∷ []) 0
    ∷ Steps 0 (Load (Some 0) 0x10000000 pointer)
    ∷ Steps 0 (Fault NotLive false [] [] (Reading (range 0x30000000 1)))
    ∷ Makes 0 (Stop (Some NotLive))
    ∷ []

-- `int main(void) { return now() + now() + now() + now(); }`
abbrev pub asking_code : ℕ → Code
asking_code (suc t) = []
asking_code zero =
    always Outside
    ∷ always (Enters false main [] (zeros 16))
    ∷ always (Calls false now [])
    ∷ always (Below now [])
    ∷ always (Calls false now [])
    ∷ always (Below now [])
    ∷ always (Calls false now [])
    ∷ always (Below now [])
    ∷ always (Calls false now [])
    ∷ always (Below now [])
    ∷ (λ mine. Leaves (frame mine) 16)
    ∷ always (UpReturns main 29)
    ∷ []

abbrev pub asking : Program
asking = program whole asking_code

-- a call of `now` and its return, in the form `same` or in full
abbrev pub asks_now : ℕ → Bool → List Doing
asks_now v same = calls 0 now [] ∷ Makes 0 (Ret now [] v same [] NoRegion) ∷ []

abbrev pub asked_twice : Bool → List Doing
asked_twice same = Makes 0 (Up main []) ∷ Steps 0 (Enter main [] 0x20000000 (zeros 16)) ∷
    asks_now 7 false ++ asks_now 7 same

abbrev pub asked : List Doing
asked = asked_twice true ++ asks_now 8 false ++ asks_now 7 false ++
    Steps 0 (Leave 0x20000000 16) ∷ Makes 0 (UpRet main 29) ∷ []

-- code that writes a constant, or prints what isn't there
abbrev pub refused_code : ℕ → Code
refused_code zero = always Outside ∷ always (Enters false main [] (zeros 16)) ∷
    always (Stores None 0x100000 (1 ∷ [])) ∷ always (Stores None 0x100000 (1 ∷ [])) ∷ []
refused_code (suc t) = always Outside ∷ always (Enters false main [] (zeros 16)) ∷
    always (Calls false print (0x1000000c ∷ 8 ∷ [])) ∷ always (Calls false print (0x1000000c ∷ 8 ∷ [])) ∷ []

abbrev pub refused : Program
refused = program whole refused_code

abbrev pub begun : ℕ → ℕ → List Doing
begun t at = Makes t (Up main []) ∷ Steps t (Enter main [] at (zeros 16)) ∷ []

abbrev pub wrote : Doing
wrote = Steps 0 (Store None 0x100000 (1 ∷ []))

abbrev pub write_refused : List Doing
write_refused = begun 0 0x20000000 ++ Steps 0 (Fault ReadOnly false [] [] (Writing (range 0x100000 1))) ∷
    Makes 0 (Stop (Some ReadOnly)) ∷ []

abbrev pub print_refused : List Doing
print_refused = begun 1 0x20010000 ++ Steps 1 (Fault NotLive true [] [] (Reading (range 0x1000000c 8))) ∷
    Makes 1 (Stop (Some NotLive)) ∷ []

-- a fault whose Stop is that of a halted thread
abbrev pub wrong_stop : List Doing
wrong_stop = begun 0 0x20000000 ++ Steps 0 (Fault ReadOnly false [] [] (Writing (range 0x100000 1))) ∷
    Makes 0 (Stop None) ∷ []
