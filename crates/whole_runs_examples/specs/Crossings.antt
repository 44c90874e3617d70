-- Programs that cross the cut in both directions.
use Rattle.std.specs.Prelude.{false, ℕ, List, [], ◌∷◌, ◌++◌, Some, None, codes, true}
use Rattle.r2_num.specs.declared.kinds.IntKind.TheVariants.{I8, I32, U64}
use Rattle.stub_core.specs.declared.terms.Term.TheVariants.{Const}
use Rattle.marks.specs.declared.fault.FaultKind.TheVariants.{NotLive, BadCall}
use Rattle.marks.specs.Marks.{Act, Fault, Made, Nowhere, Reading, UpRet}
use Rattle.marks.specs.Ranges.{range}
use Rattle.c_code.specs.declared.shape.Shape.TheVariants.{Pointer}
use Rattle.c_code.specs.declared.instr.Instr.{Instr}
use Rattle.c_code.specs.declared.instr.Instr.TheVariants as instr
use Rattle.stub_operations.specs.Examples.{one, plain, saying}
use Rattle.stub_operations.specs.Operations.{CallSays}
use Rattle.system_side.specs.declared.file.Scripted.{Scripted}
use Rattle.system_side.specs.declared.file.SysFile.{SysFile}
use Rattle.whole_runs.specs.World.{World}
use Rattle.whole_runs_examples.specs.Worlds.{source, Face, Above, Under, Outside, int, thread_function, no_params, of_params, unused, world, answer, answering, scheduled, zeros, place, number, local, global, text, load, load_pointer, load_global, store_global, add, returning, spawn}
use Rattle.whole_runs_examples.specs.Locks.{spawn_to, join_of}

-- `int raw(void);` outside the interface, `int twice(void) { int x; x = raw(); r2_print("t", 1); return x
-- + x; }` on the face, and `int main(void) { r2_print("m", 1); return twice(); }`
abbrev pub doubling : World
doubling = world
    (source (Outside (saying [])) (no_params (codes "raw") None) ∷ source (Face (saying [])) (no_params
    (codes "twice") (Some 0))
    ∷ source Above (no_params (codes "main") (Some 12)) ∷ [])
    (instr.Call 16 0 ∷ instr.StoreLocal I32 0 ∷ text 0 ∷ number 1 ∷ instr.Call 6 2 ∷ instr.Drop
    ∷ local 0 ∷ load ∷ local 0 ∷ load ∷ add ∷ instr.Finish
    ∷ text 1 ∷ number 1 ∷ instr.Call 6 2 ∷ instr.Drop ∷ instr.Call 17 0 ∷ instr.Finish ∷ [])
    [] (place 0x100000 (0x74 ∷ 0 ∷ []) ∷ place 0x100010 (0x6d ∷ 0 ∷ []) ∷ [])
    (answering (answer 16 7 [] ∷ []))

-- `int fill([out, bsize(4)] int *p, [callback] int (*f)(void)) { *p = 1; return f(); }` on the face,
-- `int peek(void) { return g; }`, and `int main(void) { return fill(&g, peek); }`
abbrev pub fill_says : CallSays
fill_says = saying (record plain { writes = Some (one (Const 4), one (Const 4)) } ∷ record plain {
  callback = true;
} ∷ [])

abbrev pub peeking : World
peeking = world
    (source (Face fill_says) (of_params (codes "fill") (Pointer ∷ Pointer ∷ []) 7 (Some 0))
    ∷ source Above (no_params (codes "peek") (Some 9)) ∷ source Above (no_params (codes "main") (Some 12))
    ∷ [])
    (local 0 ∷ load_pointer ∷ number 1 ∷ instr.Store I32 None ∷ instr.Drop
    ∷ local 8 ∷ load_pointer ∷ instr.CallPointer 1 0 ∷ instr.Finish
    ∷ global 0 ∷ load_global 0 ∷ instr.Finish
    ∷ global 0 ∷ number 0x1110 ∷ instr.Call 16 2 ∷ instr.Finish ∷ [])
    (zeros 0x10000000 4 ∷ []) [] (answering [])

-- `int raw(void);` outside the interface, which is called through a pointer: above the cut, and on the
-- face `go`
abbrev pub pointing : World
pointing = world
    (source (Outside (saying [])) (no_params (codes "raw") None) ∷ source Above (no_params (codes "main")
    (Some 0)) ∷ unused ∷ [])
    (number 0x1100 ∷ instr.CallPointer 1 0 ∷ instr.Finish ∷ []) [] [] (answering [])

abbrev pub pointing_below : List Scripted → World
pointing_below answers = world
    (source (Outside (saying [])) (no_params (codes "raw") None) ∷ source (Face (saying [])) (no_params
    (codes "go") (Some 0))
    ∷ source Above (no_params (codes "main") (Some 3)) ∷ [])
    (number 0x1100 ∷ instr.CallPointer 1 0 ∷ instr.Finish ∷ instr.Call 17 0 ∷ instr.Finish ∷ []) [] []
    (answering answers)

-- an external that may run in no mode, since nothing names it
abbrev pub pointing_nowhere : World
pointing_nowhere = world
    (source Above (no_params (codes "raw") None) ∷ source (Face (saying [])) (no_params (codes "go") (Some 0))
    ∷ source Above (no_params (codes "main") (Some 3)) ∷ [])
    (number 0x1100 ∷ instr.CallPointer 1 0 ∷ instr.Finish ∷ instr.Call 17 0 ∷ instr.Finish ∷ []) [] []
    (answering [])

-- `int read([in, bsize(4)] char *p) { p[0] = 1; return 0; }` on the face, called with a global
abbrev pub writing_in : World
writing_in = world
    (source (Face (saying (record plain { reads = Some (one (Const 4)) } ∷ []))) (of_params (codes "read")
    (Pointer ∷ []) 7 (Some 0))
    ∷ source Above (no_params (codes "main") (Some 7)) ∷ [])
    ((local 0 ∷ load_pointer ∷ number 1 ∷ instr.Store I8 None ∷ instr.Drop ∷ []) ++ returning 0 ++ (global
    0 ∷ instr.Call 16 1 ∷ instr.Finish ∷ []))
    (zeros 0x10000000 4 ∷ []) [] (answering [])

-- `int drop([out, bsize(4)] char *p) { r2_free(p); return 0; }`, called with a block
abbrev pub freeing_held : World
freeing_held = world
    (source (Face (saying (record plain { writes = Some (one (Const 4), one (Const 4)) } ∷ [])))
    (of_params (codes "drop") (Pointer ∷ []) 7 (Some 0))
    ∷ source Above (no_params (codes "main") (Some 6)) ∷ [])
    ((local 0 ∷ load_pointer ∷ instr.Call 1 1 ∷ instr.Drop ∷ []) ++ returning 0 ++ (number 4 ∷ instr.Call
    0 1 ∷ instr.Call 16 1 ∷ instr.Finish ∷ []))
    [] [] (answering [])

-- `int fill([out, bsize(4)] char *p) { p[0] = 1; return 0; }` and `int poke(void) { *(char *)0x10000000L = 1; return 0; }`
-- on the face: what was held down to the first call isn't to the second
abbrev pub held_says : CallSays
held_says = saying (record plain { writes = Some (one (Const 4), one (Const 4)) } ∷ [])

abbrev pub writing_after : World
writing_after = world
    (source (Face held_says) (of_params (codes "fill") (Pointer ∷ []) 7 (Some 0))
    ∷ source (Face (saying [])) (no_params (codes "poke") (Some 7)) ∷ source Above (no_params (codes
    "main") (Some 13)) ∷ [])
    ((local 0 ∷ load_pointer ∷ number 1 ∷ instr.Store I8 None ∷ instr.Drop ∷ []) ++ returning 0
    ++ (number 0x10000000 ∷ number 1 ∷ instr.Store I8 None ∷ instr.Drop ∷ []) ++ returning 0
    ++ (global 0 ∷ instr.Call 16 1 ∷ instr.Drop ∷ instr.Call 17 0 ∷ instr.Finish ∷ []))
    (zeros 0x10000000 4 ∷ []) [] (answering [])

-- ---- functions that are handed down

-- `int go([in, bsize(4)] char *p, [callback] int (*f)(void));` on the face, with an address of no object, and with that
-- of `low`, which may run below the cut alone, or none
abbrev pub go_says : CallSays
go_says = saying (record plain { reads = Some (one (Const 4)) } ∷ record plain { callback = true } ∷ [])

abbrev pub handing_down : (address : ℕ) → World
handing_down address = world
    (source (Face go_says) (of_params (codes "go") (Pointer ∷ Pointer ∷ []) 7 (Some 0))
    ∷ source Under (no_params (codes "low") (Some 0)) ∷ source Above (no_params (codes "main") (Some 2)) ∷
    [])
    (returning 0 ++ (number 8 ∷ number address ∷ instr.Call 16 2 ∷ instr.Finish ∷ []))
    [] [] (answering [])

-- `int go(void) { return main(); }` on the face, which calls through a pointer; `int n; int main(void) { if (n) return 5;
-- n = 1; return go(); }`
abbrev pub main_again : World
main_again = world
    (source (Face (saying [])) (no_params (codes "go") (Some 0)) ∷ source Above (no_params (codes "main")
    (Some 3)) ∷ [])
    ((number 0x1110 ∷ instr.CallPointer 1 0 ∷ instr.Finish ∷ []) ++ (global 0 ∷ load_global 0 ∷
    instr.SkipIfZero 2 ∷ []) ++ returning 5
    ++ (global 0 ∷ number 1 ∷ store_global 0 ∷ instr.Drop ∷ instr.Call 16 0 ∷ instr.Finish ∷ []))
    (zeros 0x10000000 4 ∷ []) [] (answering [])

-- `int raw(void);` and `int two(void) { return raw(); }` on the face; `int main(void) { return raw() + two() + raw(); }`
abbrev pub asking : World
asking = world
    (source (Face (saying [])) (no_params (codes "raw") None) ∷ source (Face (saying [])) (no_params
    (codes "two") (Some 0))
    ∷ source Above (no_params (codes "main") (Some 2)) ∷ [])
    (instr.Call 16 0 ∷ instr.Finish
    ∷ instr.Call 16 0 ∷ instr.Call 17 0 ∷ add ∷ instr.Call 16 0 ∷ add ∷ instr.Finish ∷ [])
    [] [] (answering (answer 16 1 [] ∷ answer 16 2 [] ∷ answer 16 4 [] ∷ []))

-- ---- threads

-- `r2_spawn` of an address that is of no thread function
abbrev pub spawning : (address : ℕ) → World
spawning address = world (source Above (no_params (codes "main") (Some 0)) ∷ unused ∷ [])
    (spawn address ++ returning 0) [] [] (scheduled ((1, 1) ∷ []))

-- `int body(void *p) { return 5; }` below the cut, `int mk(void) { int t; t = r2_spawn(body, 0); return
-- r2_join(t); }` on the face
abbrev pub spawning_below : World
spawning_below = world
    (source Under (thread_function (codes "body") 0) ∷ source (Face (saying [])) (no_params (codes "mk")
    (Some 2))
    ∷ source Above (no_params (codes "main") (Some 10)) ∷ [])
    (returning 5 ++ spawn_to 0x1100 0 ++ (local 0 ∷ load ∷ instr.Call 3 1 ∷ instr.Finish ∷ []) ++
    (instr.Call 17 0 ∷ instr.Finish ∷ []))
    [] [] (answering [])

-- `char *p; int f(void *q) { r2_free(p); return 0; }`, and `main` allocates a block, spawns f, and reads
-- the block, after it has joined the thread or without that
abbrev pub freeing : List Instr → SysFile → World
freeing joined file = world
    (source Above (thread_function (codes "f") 0) ∷ source Above (no_params (codes "main") (Some 6)) ∷
    unused ∷ [])
    ((global 0 ∷ load_pointer ∷ instr.Call 1 1 ∷ instr.Drop ∷ []) ++ returning 0
    ++ (global 0 ∷ number 16 ∷ instr.Call 0 1 ∷ instr.Store U64 None ∷ instr.Drop ∷ [])
    ++ spawn_to 0x1100 0 ++ joined ++ (global 0 ∷ load_pointer ∷ instr.Load I8 None ∷ instr.Finish ∷ []))
    (zeros 0x10000000 8 ∷ []) [] file

abbrev pub freed_and_read : World
freed_and_read = freeing (join_of 0) (scheduled ((0, 1) ∷ []))

abbrev pub reading_freed : World
reading_freed = freeing [] (scheduled ((1, 1) ∷ []))

abbrev pub read_of_none : Act
read_of_none = Fault NotLive false [] [] (Reading (range 0x30000000 1))

-- a Call that is stopped at the bytes that it would read
abbrev pub call_of_none : Act
call_of_none = Fault NotLive true [] [] (Reading (range 8 4))

-- the first step of a thread whose address is of none of its functions
abbrev pub no_function : Act
no_function = Fault BadCall false [] [] Nowhere

-- `int body(void *p) { f(); return f(); }` below the cut, which calls through a pointer; `int go([callback] int (*f)(void)) {
-- r2_spawn(body, 0); return 0; }` on the face; `int f(void) { return 0; } int main(void) { return go(f); }`
abbrev pub calling_back : World
calling_back = world
    (source Under (thread_function (codes "body") 0)
    ∷ source (Face (saying (record plain { callback = true } ∷ []))) (of_params (codes "go") (Pointer ∷ [])
    7 (Some 6))
    ∷ source Above (no_params (codes "f") (Some 12)) ∷ source Above (no_params (codes "main") (Some 14)) ∷
    [])
    ((number 0x1120 ∷ instr.CallPointer 1 0 ∷ instr.Drop ∷ number 0x1120 ∷ instr.CallPointer 1 0 ∷
    instr.Finish ∷ [])
    ++ spawn 0x1100 ++ returning 0 ++ returning 0 ++ (number 0x1120 ∷ instr.Call 17 1 ∷ instr.Finish ∷ []))
    [] [] (answering [])

-- its first UpRet without the key of its thread
abbrev pub keyless : Act
keyless = Made (record { kind = UpRet 18 0; steps = 2; keys = []; clock = 4 })
