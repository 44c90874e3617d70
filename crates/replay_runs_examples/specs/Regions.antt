-- Regions that are handed down: held until a return, or prepared and filled by another thread's call.
use Rattle.std.specs.Prelude.{ℕ, zero, suc, List, [], ◌∷◌, Some, None, Bool, false}
use Rattle.run_events.specs.declared.key.Class.{Class}
use Rattle.marks.specs.Ranges.{Piece, range}
use Rattle.marks.specs.Marks.{Released, Call, Ret, Up, UpRet, Stop, Load, Store, Enter, Leave}
use Rattle.marks.specs.Wants.{Outside, Loads, Stores, Enters, Leaves, Calls, Below, UpReturns}
use Rattle.replay_runs.specs.Interface.{Program}
use Rattle.replay_runs_examples.specs.Programs.{Code, always, loaded, frame, program, whole, Doing, Steps, Makes, calls, returns, zeros, spawn, join, main, worker, fill, read_later, await, to_worker}

-- `int g; int worker(void) { return g; } int main(void) { return fill(&g, worker); }`
abbrev pub filling_code : ℕ → Code
filling_code (suc t) = []
filling_code zero =
    always Outside
    ∷ always (Enters false main [] (zeros 16))
    ∷ always (Calls false fill (0x10000000 ∷ to_worker ∷ []))
    ∷ always (Below fill (0x10000000 ∷ to_worker ∷ []))
    ∷ always (Enters false worker [] (zeros 16))
    ∷ always (Loads (Some 0) 0x10000000 4)
    ∷ []

abbrev pub filling : Program
filling = program whole filling_code

-- the region is held while `fill` calls back
abbrev pub called_back : List Doing
called_back =
    Makes 0 (Up main [])
    ∷ Steps 0 (Enter main [] 0x20000000 (zeros 16))
    ∷ Makes 0 (Call fill (0x10000000 ∷ to_worker ∷ []) [] (range 0x10000000 4 ∷ []) [])
    ∷ Makes 0 (Up worker [])
    ∷ Steps 0 (Enter worker [] 0x20000010 (zeros 16))
    ∷ []

abbrev pub stopped : Doing
stopped = Makes 0 (Stop None)

abbrev pub pending_load : List ℕ → Doing
pending_load bytes = Steps 0 (Load (Some 0) 0x10000000 bytes)

-- `char b[4]; int main(void) { int t; read_later(b, 4, 9); t = r2_spawn(worker, 0); r2_join(t); return
-- b[0]; }`
abbrev pub main_code : Code
main_code =
    always Outside
    ∷ always (Enters false main [] (zeros 16))
    ∷ always (Calls false read_later (0x10000000 ∷ 4 ∷ 9 ∷ []))
    ∷ always (Below read_later (0x10000000 ∷ 4 ∷ 9 ∷ []))
    ∷ always (Calls false spawn (to_worker ∷ 0 ∷ []))
    ∷ always (Below spawn (to_worker ∷ 0 ∷ []))
    ∷ always (Stores None 0x20000000 (1 ∷ 0 ∷ 0 ∷ 0 ∷ []))
    ∷ always (Loads None 0x20000000 4)
    ∷ (λ mine. Calls false join (loaded mine ∷ []))
    ∷ (λ mine. Below join (loaded mine ∷ []))
    ∷ always (Loads (Some 0) 0x10000000 1)
    ∷ (λ mine. Leaves (frame mine) 16)
    ∷ (λ mine. UpReturns main (loaded mine))
    ∷ []

-- `int worker(void *p) { return await(9); }`
abbrev pub waiting_code : Code
waiting_code =
    always Outside
    ∷ always (Enters false worker (0 ∷ []) (zeros 16))
    ∷ always (Calls false await (9 ∷ []))
    ∷ always (Below await (9 ∷ []))
    ∷ (λ mine. Leaves (frame mine) 16)
    ∷ always (UpReturns worker 2)
    ∷ []

abbrev pub later_code : ℕ → Code
later_code zero = main_code
later_code (suc t) = waiting_code

abbrev pub filling_later : (Class → Bool) → Program
filling_later has = program has later_code

-- the first two bytes are `AB`, the other two as they were
abbrev pub filled : Piece
filled = record { range = range 0x10000000 4; bytes = 65 ∷ 66 ∷ [] }

abbrev pub filled_later : List Doing
filled_later =
    Makes 0 (Up main [])
    ∷ Steps 0 (Enter main [] 0x20000000 (zeros 16))
    ∷ Makes 0 (Call read_later (0x10000000 ∷ 4 ∷ 9 ∷ []) [] []
    (record { key = 9; range = range 0x10000000 4 } ∷ []))
    ∷ returns 0 read_later (0x10000000 ∷ 4 ∷ 9 ∷ []) 0
    ∷ calls 0 spawn (to_worker ∷ 0 ∷ [])
    ∷ returns 0 spawn (to_worker ∷ 0 ∷ []) 1
    ∷ Steps 0 (Store None 0x20000000 (1 ∷ 0 ∷ 0 ∷ 0 ∷ []))
    ∷ Makes 1 (Up worker (0 ∷ []))
    ∷ Steps 1 (Enter worker (0 ∷ []) 0x20010000 (zeros 16))
    ∷ calls 1 await (9 ∷ [])
    ∷ Makes 1 (Ret await (9 ∷ []) 2 false [] (Released 9 filled))
    ∷ Steps 1 (Leave 0x20010000 16)
    ∷ Makes 1 (UpRet worker 2)
    ∷ Steps 0 (Load None 0x20000000 (1 ∷ 0 ∷ 0 ∷ 0 ∷ []))
    ∷ calls 0 join (1 ∷ [])
    ∷ returns 0 join (1 ∷ []) 2
    ∷ Steps 0 (Load (Some 0) 0x10000000 (65 ∷ []))
    ∷ Steps 0 (Leave 0x20000000 16)
    ∷ Makes 0 (UpRet main 65)
    ∷ []
