-- Marks of the source's `main`.
use Rattle.std.specs.Prelude.{ℕ, false, List, [], ◌∷◌, ◌++◌, replicate, Some, None}
use Rattle.marks.specs.declared.side.Side.{Side}
use Rattle.marks.specs.declared.side.Side.TheVariants.{Replay, System}
use Rattle.marks.specs.Marks.{Mark, Act, EventKind, Call, Ret, Up, UpRet, Load, Store, Enter, Leave, Step, Made, NoRegion}
use Rattle.marks.specs.Places.{function_address}
use Rattle.marks.specs.Ranges.{bytes_of_number}
use Rattle.c_semantics.specs.Reading.{Marks}
use Rattle.c_semantics.specs.Calls.{thread_behaviour}
use Rattle.cut_graph_laws_examples.specs.Scene.{scene, simple}

-- the thread that runs `main`
abbrev pub thread : Marks
thread = thread_behaviour scene simple (function_address 20) []

abbrev mark : Side → Act → Mark
mark side act = record { thread = 0; side = side; index = 0; act = act }

abbrev event : EventKind → Mark
event k = mark Replay (Made (record { kind = k; steps = 0; keys = []; clock = 1 }))

abbrev outer : ℕ
outer = 0x20000000

abbrev inner : ℕ
inner = 0x20000010

abbrev outer_below : ℕ
outer_below = 0x60000000

abbrev inner_below : ℕ
inner_below = 0x60000010

-- a call without arguments of a function that loads the global and returns
abbrev loading : Side → (func at global place : ℕ) → List Mark
loading side f at g place =
    mark side (Enter f [] at (replicate 16 0)) ∷
    mark side (Load (Some g) place (bytes_of_number 4 1)) ∷ mark side (Leave at 16) ∷ []

-- a pointer to `back`
abbrev to_back : List ℕ
to_back = function_address 17 ∷ []

-- `main` is called, and calls `back` by its name; then it loads the pointer
abbrev begins : (pointer : ℕ) → List Mark
begins pointer =
    event (Up 20 []) ∷ mark Replay (Enter 20 [] outer (replicate 16 0))
    ∷ mark Replay (Store (Some 0) 0x10000000 (bytes_of_number 4 1)) ∷
    (loading Replay 17 inner 0 0x10000000 ++
    mark Replay (Load (Some 2) 0x10000008 (bytes_of_number 8 pointer)) ∷ [])

-- `go` runs below the cut: it calls the external, `low` by its name and through a pointer, and the function
-- that it was given
abbrev below : List Mark
below =
    mark System (Enter 19 to_back outer_below (bytes_of_number 16 (function_address 17)))
    ∷ mark System (Step 16 [] 5 [] [] []) ∷
    mark System (Store (Some 1) 0x50000000 (bytes_of_number 4 5))
    ∷ (loading System 18 inner_below 1 0x50000000 ++ (loading System 18 inner_below 1 0x50000000
    ++ (mark System (Load None outer_below (bytes_of_number 8 (function_address 17))) ∷
    event (Up 17 []) ∷ (loading Replay 17 inner 0 0x10000000
    ++ event (UpRet 17 1) ∷ mark System (Leave outer_below 16) ∷ []))))

-- the pointer is to `back`; `go` is called by its name, and then through a pointer
abbrev pub whole : List Mark
whole =
    begins (function_address 17) ++ (loading Replay 17 inner 0 0x10000000
    ++ (event (Call 19 to_back [] [] []) ∷ (below
    ++ event (Ret 19 to_back 1 false [] NoRegion) ∷ event (Call 19 to_back [] [] []) ∷ [])))

-- the pointer is to `low`, which may not run above the cut
abbrev pub broken : List Mark
broken = begins (function_address 18) ++
    mark Replay (Enter 18 [] inner (replicate 16 0)) ∷ []
