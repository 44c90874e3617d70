-- The tests of one step, on either side of the cut.
use Rattle.std.specs.Prelude.{◌≡◌, ℕ, zero, suc, ◌<◌, Bool, true, false, ◌||◌, not, ◌==◌, List, [], ◌∷◌, length, map, get_or, Option, Some, None}
use Rattle.marks.specs.declared.side.Side.{Side}
use Rattle.marks.specs.declared.side.Side.TheVariants.{Replay, System}
use Rattle.marks.specs.declared.fault.FaultKind.TheVariants.{NotLive, StackFull}
use Rattle.marks.specs.declared.breach.BreachKind.TheVariants.{OtherSpace}
use Rattle.marks.specs.Places.{is_replay}
use Rattle.marks.specs.Ranges.{range}
use Rattle.marks.specs.Marks.{Mark}
use Rattle.marks.specs.Bytes.{Cell, Dead, Live, Held}
use Rattle.marks.specs.Wants.{Want, Outside, Turns, Loads, Stores, Enters, Leaves, Allocs, Frees, Calls, Below, Gives, Returns, CallsBack, UpReturns, Steps, Fails}
use Rattle.c_builtins.specs.declared.builtin.Builtin.{Builtin}
use Rattle.c_builtins.specs.declared.builtin.Builtin.TheVariants as builtins
use Rattle.c_code.specs.Machine.{first}
use Rattle.replay_runs.specs.Runs.{byte}
use Rattle.replay_runs.specs.Pool.{is_registered}
use Rattle.replay_runs.specs.Checks.{Checks, Check, Done, Answered, checks, mode_checks, indirect_check, return_checks, is_fault_found, is_breach_found}
use Rattle.whole_runs.specs.World.{World, begin, interface, interface_on, main_of}
use Rattle.whole_runs.specs.Sides.{seen, HasRoomOn}
use Rattle.whole_runs.specs.Outcomes.{builtin_of}
use Rattle.whole_runs.specs.Memory.{real, filled}
use Rattle.whole_runs.specs.Below.{Given, ByPool, Says, NoMore, given, touch_checks, read_checks, block_at, Target, To, Nowhere, Missing, targets, pieces_for}

-- ---- above the cut

-- the memory in which the pieces of an answer stand at the front of their regions
abbrev pub with_answer : World → List Mark → (func : ℕ) → (args : List ℕ) → (result : ℕ) →
    (pieces : List (List ℕ)) → (x : ℕ) → Option ℕ
with_answer w past f args v pieces x = filled (pieces_for (targets w Replay past f args v) pieces) x
    (real w past x)

-- a pending byte isn't what it was when it was held
abbrev pub is_changed : Cell → (now : Option ℕ) → Bool
is_changed Dead now = false
is_changed (Live v) now = false
is_changed (Held v) None = true
is_changed (Held v) (Some u) = not (u == v)

-- what comes up with a Ret: these pieces, and the bytes that they or code below the cut changed. A
-- function with a body has no pieces
abbrev pub comes_up : World → List Mark → (func : ℕ) → (args : List ℕ) → (result : ℕ) →
    (pieces : List (List ℕ)) → Answered
comes_up w past f args v pieces = record {
  pieces = map length pieces;
  committed = length (get_or pieces (length ((interface w).outs f args)) []);
  changed = λ x. is_changed (byte (begin w) x (seen past)).cell (with_answer w past f args v pieces x);
}

abbrev pub ret_checks : World → List Mark → (func : ℕ) → (args : List ℕ) → (result : ℕ) →
    (pieces : List (List ℕ)) → Checks
ret_checks w past f args v pieces = return_checks (interface w) (begin w) (seen past)
    (comes_up w past f args v pieces) f args v

abbrev pub give_checks : World → List Mark → (func : ℕ) → (args : List ℕ) → Given → Checks
give_checks w past f args ByPool = Done
give_checks w past f args (Says v pieces) = ret_checks w past f args v pieces
give_checks w past f args NoMore = Done

abbrev pub replay_checks : World → List Mark → (thread : ℕ) → Want → Checks
replay_checks w past t want = checks (interface w) (begin w) (seen past) t want

-- a Ret is tested by what comes up with it, all else as in a replay
abbrev pub checks_above : World → List Mark → (thread : ℕ) → Want → Checks
checks_above w past t Outside = replay_checks w past t Outside
checks_above w past t Turns = replay_checks w past t Turns
checks_above w past t (Loads origin at width) = replay_checks w past t (Loads origin at width)
checks_above w past t (Stores origin at bytes) = replay_checks w past t (Stores origin at bytes)
checks_above w past t (Enters indirect f args bytes) = replay_checks w past t (Enters indirect f args bytes)
checks_above w past t (Leaves at size) = replay_checks w past t (Leaves at size)
checks_above w past t (Allocs size) = replay_checks w past t (Allocs size)
checks_above w past t (Frees at) = replay_checks w past t (Frees at)
checks_above w past t (Calls indirect f args) = replay_checks w past t (Calls indirect f args)
checks_above w past t (Below f args) = replay_checks w past t (Below f args)
checks_above w past t (Gives f args) = give_checks w past f args (given w past t f args)
checks_above w past t (Returns f args v) = ret_checks w past f args v []
checks_above w past t (CallsBack f args bytes) = replay_checks w past t (CallsBack f args bytes)
checks_above w past t (UpReturns f v) = replay_checks w past t (UpReturns f v)
checks_above w past t (Steps indirect f args) = replay_checks w past t (Steps indirect f args)
checks_above w past t (Fails kind) = replay_checks w past t (Fails kind)

-- ---- below it

-- a function that an indirect call below the cut calls back: `main`, or one that a Call registered
abbrev pub is_back : World → List Mark → (func : ℕ) → Bool
is_back w past f = f == main_of w.laid.code || is_registered (begin w) f (seen past)

abbrev pub full_check : World → List Mark → (thread size : ℕ) → Checks
full_check w past t size = Check (λ x. ¬ HasRoomOn w System t past size) (is_fault_found StackFull) Done

-- `r2_free` gives back no address of replay memory, whatever is handed down there, and only what begins a
-- block of system code; of NULL it does nothing
abbrev pub free_checks : World → List Mark → (at : ℕ) → Checks
free_checks w past zero = Done
free_checks w past (suc a) =
    Check (λ x. (x ≡ suc a) × (is_replay x ≡ true)) (is_breach_found OtherSpace)
    (Check (λ x. block_at (suc a) past ≡ []) (is_fault_found NotLive) Done)

-- one piece of an external: it has a region under its key and fits in it, and may be written there
abbrev pub piece_check : World → List Mark → (thread : ℕ) → Target → List ℕ → Checks → Checks
piece_check w past t (To r) b cs = Check (λ x. r.len < length b) (is_fault_found NotLive)
    (touch_checks w past t true (range r.addr (length b)) cs)
piece_check w past t Nowhere b cs = cs
piece_check w past t Missing b cs = Check (λ x. Unit {0}) (is_fault_found NotLive) cs

-- all of them, in order: one that can't be written stops the whole step. There are as many as targets,
-- where the file fits
abbrev pub piece_checks : World → List Mark → (thread : ℕ) → List Target → List (List ℕ) → Checks
piece_checks w past t [] bs = Done
piece_checks w past t (x ∷ xs) [] = Done
piece_checks w past t (x ∷ xs) (b ∷ bs) = piece_check w past t x b (piece_checks w past t xs bs)

abbrev pub external_checks : World → List Mark → (thread func : ℕ) → (args : List ℕ) → Given → Checks
external_checks w past t f args ByPool = Done
external_checks w past t f args (Says v pieces) =
    piece_checks w past t (targets w System past f args v) pieces
external_checks w past t f args NoMore = Done

abbrev pub step_checks : World → List Mark → (thread func : ℕ) → (args : List ℕ) → Option Builtin → Checks
step_checks w past t f args (Some builtins.Malloc) = Done
step_checks w past t f args (Some builtins.Free) = free_checks w past (first args)
step_checks w past t f args (Some builtins.Spawn) = Done
step_checks w past t f args (Some builtins.Join) = Done
step_checks w past t f args (Some builtins.Lock) = Done
step_checks w past t f args (Some builtins.Unlock) = Done
step_checks w past t f args (Some builtins.Print) =
    read_checks w past t ((interface_on w System f).ins f args)
step_checks w past t f args None = external_checks w past t f args (given w past t f args)

-- a call through a pointer that isn't a call back is one of a function that may run there
abbrev pub back_checks : World → List Mark → (thread func : ℕ) → (bytes : List ℕ) → (back : Bool) → Checks
back_checks w past t f bytes true = Done
back_checks w past t f bytes false =
    mode_checks (interface w) System (f ∷ []) (full_check w past t (length bytes))

abbrev pub checks_below : World → List Mark → (thread : ℕ) → Want → Checks
checks_below w past t Outside = Done
checks_below w past t Turns = Done
checks_below w past t (Loads origin at width) = touch_checks w past t false (range at width) Done
checks_below w past t (Stores origin at bytes) = touch_checks w past t true (range at (length bytes)) Done
checks_below w past t (Enters indirect f args bytes) =
    indirect_check (interface w) indirect System f (full_check w past t (length bytes))
checks_below w past t (Leaves at size) = Done
checks_below w past t (Allocs size) = Done
checks_below w past t (Frees at) = Done
checks_below w past t (Calls indirect f args) = Done
checks_below w past t (Below f args) = Done
checks_below w past t (Gives f args) = Done
checks_below w past t (Returns f args v) = Done
checks_below w past t (CallsBack f args bytes) = back_checks w past t f bytes (is_back w past f)
checks_below w past t (UpReturns f v) = Done
checks_below w past t (Steps indirect f args) =
    indirect_check (interface w) indirect System f (step_checks w past t f args (builtin_of f))
checks_below w past t (Fails kind) = Check (λ x. Unit {0}) (is_fault_found kind) Done

-- what is tested before a thread does what its code wants on a side
abbrev pub tests : World → List Mark → (thread : ℕ) → Side → Want → Checks
tests w past t Replay want = checks_above w past t want
tests w past t System want = checks_below w past t want
