-- Programs whose interface hands down regions.
use Rattle.std.specs.Prelude.{ℕ, ◌-◌, ◌^◌, Bool, true, false, List, [], ◌∷◌, ◌++◌, replicate, Some, None, codes}
use Rattle.r2_num.specs.declared.kinds.IntKind.TheVariants.{I8}
use Rattle.stub_core.specs.declared.terms.Term.TheVariants.{Const, Param, Return}
use Rattle.marks.specs.Ranges.{range}
use Rattle.marks.specs.Marks.{Act, NoRegion, Ret}
use Rattle.c_code.specs.declared.shape.Shape.TheVariants.{Pointer}
use Rattle.c_code.specs.declared.instr.Instr.{Instr}
use Rattle.c_code.specs.declared.instr.Instr.TheVariants as instr
use Rattle.stub_operations.specs.Examples.{one, plain, saying}
use Rattle.stub_operations.specs.Operations.{CallSays}
use Rattle.system_side.specs.declared.file.Scripted.{Scripted}
use Rattle.whole_runs.specs.World.{World}
use Rattle.whole_runs_examples.specs.Play.{event_at}
use Rattle.whole_runs_examples.specs.Worlds.{Source, Stand, source, Face, Above, Outside, int, thread_function, no_params, of_params, world, answer, answering, scheduled, zeros, place, number, local, global, load_pointer, byte_of, add, returning, spawn}

abbrev pub minus_one : ℕ
minus_one = 2 ^ 64 - 1

-- ---- one region

-- `int recv(int s, [out, cap(len), bsize(return)] char *buf, int len);`
abbrev pub recv_says : CallSays
recv_says = saying (plain ∷ record plain { writes = Some (one (Param 2), one Return) } ∷ plain ∷ [])

-- `char b[8]; int main(void) { return recv(3, b, 8); }`
abbrev pub receiving : List Scripted → World
receiving answers = world
    (source (Face recv_says) (of_params (codes "recv") (int ∷ Pointer ∷ int ∷ []) 7 None) ∷ source Above
    (no_params (codes "main") (Some 0)) ∷ [])
    (number 3 ∷ global 0 ∷ number 8 ∷ instr.Call 16 3 ∷ instr.Finish ∷ [])
    (zeros 0x10000000 8 ∷ []) [] (answering answers)

abbrev pub received : (result : ℕ) → List ℕ → List Scripted
received result bytes = answer 16 result (bytes ∷ []) ∷ []

-- with an answer of five bytes
abbrev pub receiving_hello : World
receiving_hello = receiving (received 5 (codes "Hello"))

-- a Ret with the whole region, where five bytes are used
abbrev pub hello_in_full : Act
hello_in_full = event_at receiving_hello 3 0 (Ret 16 (3 ∷ 0x10000000 ∷ 8 ∷ []) 5 false (record {
  range = range 0x10000000 8;
  bytes = codes "Hello" ++ (0 ∷ 0 ∷ 0 ∷ []);
} ∷ []) NoRegion)

-- `int rd([out, cap(4), bsize(return)] char *p);`, called with an address; the region holds 1, 2, 3, 4 before
abbrev pub rd_says : CallSays
rd_says = saying (record plain { writes = Some (one (Const 4), one Return) } ∷ [])

abbrev pub reading : (addr : ℕ) → List Scripted → World
reading addr answers = world
    (source (Face rd_says) (of_params (codes "rd") (Pointer ∷ []) 7 None) ∷ source Above (no_params (codes
    "main") (Some 0)) ∷ [])
    (number addr ∷ instr.Call 16 1 ∷ instr.Finish ∷ [])
    (place 0x10000000 (1 ∷ 2 ∷ 3 ∷ 4 ∷ []) ∷ []) [] (answering answers)

-- `int rd([out, cap(4), bsize(4)] char *p, [out, cap(4), bsize(return)] char *q);`
abbrev pub two_says : CallSays
two_says = saying (record plain { writes = Some (one (Const 4), one (Const 4)) }
    ∷ record plain { writes = Some (one (Const 4), one Return) } ∷ [])

abbrev pub reading_two : (result : ℕ) → (first second : List ℕ) → World
reading_two result first second = world
    (source (Face two_says) (of_params (codes "rd") (Pointer ∷ Pointer ∷ []) 7 None) ∷ source Above
    (no_params (codes "main") (Some 0)) ∷ [])
    (global 0 ∷ global 1 ∷ instr.Call 16 2 ∷ instr.Finish ∷ [])
    (zeros 0x10000000 4 ∷ zeros 0x10000004 4 ∷ []) [] (answering (answer 16 result (first ∷ second ∷ []) ∷
    []))

-- a first piece that is too long, and one that isn't
abbrev pub too_long : World
too_long = reading_two 9 (codes "ABCDE") (codes "A")

abbrev pub too_much : World
too_much = reading_two 9 [] (codes "A")

-- ---- prepared regions

-- `int prep([prepare(k), cap(n)] char *p, int n, int k);`
abbrev pub prep_says : CallSays
prep_says = saying (record plain { prepares = Some (2, one (Param 1)) } ∷ plain ∷ plain ∷ [])

-- `[commit(k, return)] int take(int k);`
abbrev pub take_says : CallSays
take_says = record (saying (plain ∷ [])) { commit = Some (0, one Return) }

abbrev pub preparing : Stand → Source
preparing stand = source stand (of_params (codes "prep") (Pointer ∷ int ∷ int ∷ []) 7 None)

abbrev pub taking : Stand → Source
taking stand = source stand (of_params (codes "take") (int ∷ []) 8 None)

-- `prep(b, 4, 9);` with b at an address, and `take(9);`, of functions with these numbers
abbrev pub prep : (func addr : ℕ) → List Instr
prep f addr = number addr ∷ number 4 ∷ number 9 ∷ instr.Call f 3 ∷ instr.Drop ∷ []

abbrev pub take : (func : ℕ) → List Instr
take f = number 9 ∷ instr.Call f 1 ∷ instr.Drop ∷ []

-- `int poke(char *p) { p[3] = 9; return 0; }` on the face; `int main(void) { prep(b, 4, 9); poke(b);
-- take(9); return b[3]; }`
abbrev pub poking : (bytes : List ℕ) → World
poking bytes = world
    (preparing (Face prep_says) ∷ taking (Face take_says)
    ∷ source (Face (saying (plain ∷ []))) (of_params (codes "poke") (Pointer ∷ []) 6 (Some 0))
    ∷ source Above (no_params (codes "main") (Some 9)) ∷ [])
    ((local 0 ∷ load_pointer ∷ number 3 ∷ byte_of ∷ number 9 ∷ instr.Store I8 None ∷ instr.Drop ∷ []) ++
    returning 0
    ++ prep 16 0x10000000 ++ (global 0 ∷ instr.Call 18 1 ∷ instr.Drop ∷ []) ++ take 17
    ++ (global 0 ∷ number 3 ∷ byte_of ∷ instr.Load I8 (Some 0) ∷ instr.Finish ∷ []))
    (zeros 0x10000000 4 ∷ []) [] (answering (answer 16 0 [] ∷ answer 17 2 (bytes ∷ []) ∷ []))

-- the answer brings back the byte that `poke` wrote over, or leaves it
abbrev pub restoring : World
restoring = poking (0x41 ∷ 0x42 ∷ 0 ∷ 0 ∷ [])

abbrev pub leaving : World
leaving = poking (0x41 ∷ 0x42 ∷ [])

-- `prep(b, 4, 9); take(9); take(9); return 0;`, where the first `take` gives -1
abbrev pub withheld : World
withheld = world
    (preparing (Face prep_says) ∷ taking (Face take_says) ∷ source Above (no_params (codes "main") (Some
    0)) ∷ [])
    (prep 16 0x10000000 ++ take 17 ++ take 17 ++ returning 0)
    (zeros 0x10000000 4 ∷ []) []
    (answering (answer 16 0 [] ∷ answer 17 minus_one ((0x41 ∷ 0x42 ∷ []) ∷ []) ∷ answer 17 2 ((0x43 ∷ 0x44
    ∷ []) ∷ []) ∷ []))

-- a key that isn't in use, and one that is
abbrev pub taking_none : World
taking_none = world (taking (Face take_says) ∷ source Above (no_params (codes "main") (Some 0)) ∷ [])
    (take 16 ++ returning 0) [] [] (answering (answer 16 2 ((0x41 ∷ 0x42 ∷ []) ∷ []) ∷ []))

abbrev pub preparing_twice : (second : ℕ) → World
preparing_twice second = world (preparing (Face prep_says) ∷ source Above (no_params (codes "main") (Some
    0)) ∷ [])
    (prep 16 0x10000000 ++ prep 16 second ++ returning 0)
    (zeros 0x10000000 8 ∷ []) [] (answering (answer 16 0 [] ∷ answer 16 0 [] ∷ []))

-- code below the cut prepares u and then v under one key and takes it: `int go(void) { prep(u, 4, 9);
-- prep(v, 4, 9); take(9); return 0; }`
abbrev pub preparing_below : World
preparing_below = world
    (preparing (Outside prep_says) ∷ taking (Outside take_says)
    ∷ source (Face (saying [])) (no_params (codes "go") (Some 0)) ∷ source Above (no_params (codes "main")
    (Some 15)) ∷ [])
    (prep 16 0x50000000 ++ prep 16 0x50000004 ++ take 17 ++ returning 0 ++ (instr.Call 18 0 ∷ instr.Finish
    ∷ []))
    (zeros 0x50000000 4 ∷ zeros 0x50000004 4 ∷ []) []
    (answering (answer 16 0 [] ∷ answer 16 0 [] ∷ answer 17 1 ((7 ∷ []) ∷ []) ∷ []))

-- an external below the cut commits a region that a Call prepared: `int mid(void) { low(9); return 0; }`
-- on the face, and `int main(void) { prep(b, 4, 9); mid(); take(9); return 0; }`
abbrev pub committing_below : (used : ℕ) → World
committing_below used = world
    (preparing (Face prep_says) ∷ taking (Face take_says)
    ∷ source (Outside take_says) (of_params (codes "low") (int ∷ []) 8 None)
    ∷ source (Face (saying [])) (no_params (codes "mid") (Some 0)) ∷ source Above (no_params (codes
    "main") (Some 5)) ∷ [])
    (take 18 ++ returning 0 ++ prep 16 0x10000000 ++ (instr.Call 19 0 ∷ instr.Drop ∷ []) ++ take 17 ++
    returning 0)
    (zeros 0x10000000 4 ∷ []) []
    (answering (answer 16 0 [] ∷ answer 18 3 ((0x41 ∷ 0x42 ∷ 0x43 ∷ []) ∷ []) ∷ answer 17 used ([] ∷ []) ∷
    []))

-- `prep(b, 0, 9); prep(b, 0, 9);`: regions without bytes
abbrev pub prep_none : List Instr
prep_none = number 0x10000000 ∷ number 0 ∷ number 9 ∷ instr.Call 16 3 ∷ instr.Drop ∷ []

abbrev pub preparing_none : World
preparing_none = world (preparing (Face prep_says) ∷ source Above (no_params (codes "main") (Some 0)) ∷ [])
    (prep_none ++ prep_none ++ returning 0)
    (zeros 0x10000000 8 ∷ []) [] (answering (answer 16 0 [] ∷ answer 16 0 [] ∷ []))

-- ---- equal returns

-- `[cache] int now(void);`
abbrev pub cached : Source
cached = source (Face (record (saying []) { cache = true })) (no_params (codes "now") None)

-- its Ret
abbrev pub now_ret : World → (steps thread result : ℕ) → (same : Bool) → Act
now_ret w n t v same = event_at w n t (Ret 16 [] v same [] NoRegion)

-- `int main(void) { return now() + now(); }`, with two answers
abbrev pub caching : (first second : ℕ) → World
caching first second = world (cached ∷ source Above (no_params (codes "main") (Some 0)) ∷ [])
    (instr.Call 16 0 ∷ instr.Call 16 0 ∷ add ∷ instr.Finish ∷ []) [] []
    (answering (answer 16 first [] ∷ answer 16 second [] ∷ []))

-- `int f(void *p) { return now(); } int main(void) { now(); r2_spawn(f, 0); return now(); }`, with equal answers, where
-- thread 1 has its Ret between those of thread 0
abbrev pub caching_twice : World
caching_twice = world
    (cached ∷ source Above (thread_function (codes "f") 0) ∷ source Above (no_params (codes "main") (Some
    2)) ∷ [])
    ((instr.Call 16 0 ∷ instr.Finish ∷ instr.Call 16 0 ∷ instr.Drop ∷ []) ++ spawn 0x1110 ++
    (instr.Call 16 0 ∷
    instr.Finish ∷ []))
    [] []
    (record (scheduled ((0, 6) ∷ (1, 4) ∷ (0, 9) ∷ [])) { answers = replicate 3 (answer 16 7 []) })
