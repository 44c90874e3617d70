-- Programs of several threads.
use Rattle.std.specs.Prelude.{ℕ, List, [], ◌∷◌, ◌++◌, Some, None, codes}
use Rattle.r2_num.specs.declared.kinds.IntKind.TheVariants.{I32, I8}
use Rattle.c_code.specs.declared.instr.Instr.{Instr}
use Rattle.c_code.specs.declared.instr.Instr.TheVariants as instr
use Rattle.whole_runs.specs.World.{World}
use Rattle.whole_runs_examples.specs.Worlds.{Source, source, Above, thread_function, no_params, unused, world, scheduled, zeros, number, local, global, load, load_global, store_global, byte_of, add, returning, spawn, lock, unlock}

-- `n = n + 1;`
abbrev pub count : List Instr
count = global 0 ∷ global 0 ∷ load_global 0 ∷ number 1 ∷ add ∷ store_global 0 ∷ instr.Drop ∷ []

-- `t = r2_spawn(f, 0);` of a local, and `r2_join(t);`
abbrev pub spawn_to : (address offset : ℕ) → List Instr
spawn_to address offset = number address ∷ number 0 ∷ instr.Call 2 2 ∷ instr.StoreLocal I32 offset ∷ []

abbrev pub join_of : (offset : ℕ) → List Instr
join_of offset = local offset ∷ load ∷ instr.Call 3 1 ∷ instr.Drop ∷ []

-- `int main(void) { int a; int b; a = r2_spawn(add, 0); b = r2_spawn(add, 0); r2_join(a); r2_join(b);
-- return 0; }`
abbrev pub two_adders : List Instr
two_adders = spawn_to 0x1100 0 ++ spawn_to 0x1100 4 ++ join_of 0 ++ join_of 4 ++ returning 0

-- 16 is `add`, 17 `main`
abbrev pub adders : (main_at : ℕ) → List Source
adders main_at = source Above (thread_function (codes "add") 0) ∷ source Above (no_params (codes "main")
    (Some main_at)) ∷ unused ∷ []

-- `int n; int add(void *p) { r2_lock(0); n = n + 1; r2_unlock(0); return 0; }`, with a budget and threads
-- 0, 1, 2 in turn
abbrev pub adding : (budget : ℕ) → World
adding budget = world (adders 15) (lock ++ count ++ unlock ++ returning 0 ++ two_adders) (zeros 0x10000000
    4 ∷ []) []
    (record (scheduled ((0, 1) ∷ (1, 1) ∷ (2, 1) ∷ [])) { budget = budget })

-- the same without the mutex
abbrev pub racing : World
racing = world (adders 9) (count ++ returning 0 ++ two_adders) (zeros 0x10000000 4 ∷ []) []
    (scheduled ((0, 1) ∷ (1, 1) ∷ (2, 1) ∷ []))

-- `n = v;`
abbrev pub set : (value : ℕ) → List Instr
set value = global 0 ∷ number value ∷ store_global 0 ∷ instr.Drop ∷ []

-- `int a(void *p) { r2_lock(0); n = 1; r2_unlock(0); return 0; } int c(void *p) { n = 2; return 0; }`:
-- two threads run a, and then one runs c
abbrev pub crowded : World
crowded = world
    (source Above (thread_function (codes "a") 0) ∷ source Above (thread_function (codes "c") 12)
    ∷ source Above (no_params (codes "main") (Some 18)) ∷ unused ∷ [])
    (lock ++ set 1 ++ unlock ++ returning 0 ++ set 2 ++ returning 0
    ++ spawn 0x1100 ++ spawn 0x1100 ++ spawn 0x1110 ++ returning 0)
    (zeros 0x10000000 4 ∷ []) [] (scheduled ((0, 8) ∷ (1, 9) ∷ (2, 9) ∷ (3, 9) ∷ []))

-- `int main(void) { r2_lock(0); r2_lock(0); return 0; }`
abbrev pub waiting : World
waiting = world (source Above (no_params (codes "main") (Some 0)) ∷ unused ∷ []) (lock ++ lock ++
    returning 0) [] [] (scheduled ((0, 1) ∷ []))

-- `char b[2]; int f(void *p) { b[0] = 1; return 0; } int main(void) { r2_spawn(f, 0); b[1] = 2; return 0; }`
abbrev pub set_byte : (index value : ℕ) → List Instr
set_byte index value = global 0 ∷ number index ∷ byte_of ∷ number value ∷ instr.Store I8 (Some 0) ∷
    instr.Drop ∷ []

abbrev pub neighbours : World
neighbours = world (source Above (thread_function (codes "f") 0) ∷ source Above (no_params (codes "main")
    (Some 8)) ∷ unused ∷ [])
    (set_byte 0 1 ++ returning 0 ++ spawn 0x1100 ++ set_byte 1 2 ++ returning 0)
    (zeros 0x10000000 2 ∷ []) [] (scheduled ((0, 1) ∷ (1, 1) ∷ []))

-- `int n; int m; int f(void *p) { m = n; return 0; } int g(void *p) { n = 1; return 0; }`: f runs, and then g
abbrev pub reading_first : World
reading_first = world
    (source Above (thread_function (codes "f") 0) ∷ source Above (thread_function (codes "g") 7)
    ∷ source Above (no_params (codes "main") (Some 13)) ∷ unused ∷ [])
    ((global 1 ∷ global 0 ∷ load_global 0 ∷ store_global 1 ∷ instr.Drop ∷ []) ++ returning 0 ++ set 1 ++
    returning 0
    ++ spawn 0x1100 ++ spawn 0x1110 ++ returning 0)
    (zeros 0x10000000 4 ∷ zeros 0x10000004 4 ∷ []) [] (scheduled ((0, 8) ∷ (1, 6) ∷ (2, 6) ∷ []))

-- `int f(void *p) { *(char *)r2_malloc(16) = 1; r2_free((char *)0x30000000L); return 0; }`, which thread 1 runs and then,
-- as a plain call, `main`: both get one block
abbrev pub pooling : World
pooling = world (source Above (thread_function (codes "f") 0) ∷ source Above (no_params (codes "main")
    (Some 10)) ∷ unused ∷ [])
    ((number 16 ∷ instr.Call 0 1 ∷ number 1 ∷ instr.Store I8 None ∷ instr.Drop ∷ []) ++ (number 0x30000000 ∷
    instr.Call 1 1 ∷ instr.Drop ∷ []) ++ returning 0
    ++ spawn 0x1100 ++ (number 0 ∷ instr.Call 16 1 ∷ instr.Finish ∷ []))
    [] [] (scheduled ((0, 4) ∷ (1, 7) ∷ (0, 7) ∷ []))

-- `int f(void *p) { return 0; } int main(void) { r2_malloc(4); r2_spawn(f, 0); return 0; }`, with chunks of two
-- records, where the budget ends after the Up of thread 1
abbrev pub chunking : World
chunking = world (source Above (thread_function (codes "f") 0) ∷ source Above (no_params (codes "main")
    (Some 2)) ∷ unused ∷ [])
    (returning 0 ++ (number 4 ∷ instr.Call 0 1 ∷ instr.Drop ∷ []) ++ spawn 0x1100 ++ returning 0)
    [] [] (record (scheduled ((0, 5) ∷ (1, 1) ∷ [])) { budget = 6; chunk = 2 })
