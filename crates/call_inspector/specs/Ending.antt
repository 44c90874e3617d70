-- How a run ended, as its events show it.
use Rattle.std.specs.Prelude.{ℕ, suc, ◌^◌, ◌==◌, ◌&&◌, nat_lt, Bool, true, false, if◌then◌else◌, List, [], ◌∷◌, ◌++◌, length, codes, decimal, slice_get, Option, Some, None}
use Rattle.std.specs.List.{list_any, list_all}
use Rattle.run_events.specs.declared.event.Event.{Event}
use Rattle.run_events.specs.declared.event.Event.TheVariants.{Call, Ret, Up, UpRet, Alloc, Free, Stop}
use Rattle.run_events.specs.declared.event.Reason.{Reason}
use Rattle.run_events.specs.declared.event.Reason.TheVariants.{Halted, Fault}
use Rattle.run_events.specs.declared.event.Record.{Record}
use Rattle.c_builtins.specs.declared.builtin.Builtin.TheVariants.{Spawn}
use Rattle.c_builtins.specs.Table.{number_of}
use Rattle.call_inspector.specs.declared.ends.Shown.{Shown}
use Rattle.call_inspector.specs.declared.ends.Shown.TheVariants as shown
use Rattle.call_inspector.specs.Open.{opened, innermost}
use Rattle.call_inspector.specs.EventText.{fault_from, fault_text}

-- ---- faults

abbrev pub fault_of_reason : Reason → Option ℕ
fault_of_reason Halted = None
fault_of_reason (Fault kind) = Some kind

-- the number of the fault at which an event stops its thread
abbrev pub fault_of : Event → Option ℕ
fault_of (Call func args) = None
fault_of (Ret same result outs) = None
fault_of (Up func args) = None
fault_of (UpRet result) = None
fault_of (Alloc size addr) = None
fault_of (Free addr) = None
fault_of (Stop reason) = fault_of_reason reason

-- the first, or else the second
abbrev pub or_else : {A : Type 0} → Option A → Option A → Option A
or_else None b = b
or_else (Some a) b = Some a

-- the fault of the first event of a thread that has one
abbrev pub thread_fault : List Record → Option ℕ
thread_fault [] = None
thread_fault (r ∷ rs) = or_else (fault_of r.event) (thread_fault rs)

-- a fault of a thread
abbrev pub fault_in : ℕ → Option ℕ → Option Shown
fault_in thread None = None
fault_in thread (Some kind) = Some (shown.Fault kind thread)

-- the fault of the first thread that has one, among the threads from a number on
abbrev pub fault_from_thread : ℕ → List (List Record) → Option Shown
fault_from_thread thread [] = None
fault_from_thread thread (rs ∷ more) = or_else (fault_in thread (thread_fault rs))
    (fault_from_thread (suc thread) more)

-- ---- threads that are done

abbrev pub is_up : Event → Bool
is_up (Call func args) = false
is_up (Ret same result outs) = false
is_up (Up func args) = true
is_up (UpRet result) = false
is_up (Alloc size addr) = false
is_up (Free addr) = false
is_up (Stop reason) = false

-- a thread that is there has an Up
abbrev pub has_up : Option (List Record) → Bool
has_up None = false
has_up (Some rs) = list_any (λ r. is_up r.event) rs

-- a number that is not below 0, as a 64-bit two's complement pattern
abbrev pub is_natural : ℕ → Bool
is_natural n = nat_lt n (2 ^ 63)

abbrev pub is_spawn : Option ℕ → Bool
is_spawn None = false
is_spawn (Some func) = func == number_of Spawn

-- the thread that an event gave: a return of `r2_spawn` gives that of its number, where this is not below 0
abbrev pub spawned : List ℕ → Event → Option ℕ
spawned active (Call func args) = None
spawned active (Ret same result outs) = if is_spawn (innermost active) &&
    is_natural result then Some result else None
spawned active (Up func args) = None
spawned active (UpRet result) = None
spawned active (Alloc size addr) = None
spawned active (Free addr) = None
spawned active (Stop reason) = None

-- a thread that was given has an Up
abbrev pub has_begun : List (List Record) → Option ℕ → Bool
has_begun threads None = true
has_begun threads (Some thread) = has_up (slice_get threads thread)

-- each thread that these events gave, which come after earlier ones of their thread, has an Up
abbrev pub have_begun : List (List Record) → List Record → List Record → Bool
have_begun threads earlier [] = true
have_begun threads earlier (r ∷ rs) = has_begun threads (spawned (opened earlier) r.event) &&
    have_begun threads (earlier ++ r ∷ []) rs

-- the threads that a thread gave have an Up each, and each of its calls and callbacks has returned
abbrev pub is_over : List (List Record) → List Record → Bool
is_over threads rs = have_begun threads [] rs && length (opened rs) == 0

-- thread 0 has an Up, and each thread is over
abbrev pub is_done : List (List Record) → Bool
is_done threads = has_up (slice_get threads 0) && list_all (is_over threads) threads

-- ---- the ending

abbrev pub ending_or : Option Shown → Bool → Shown
ending_or (Some fault) done = fault
ending_or None true = shown.Done
ending_or None false = shown.Halted

-- a fault where a Stop has one; else done or halted
abbrev pub ending_of : List (List Record) → Shown
ending_of threads = ending_or (fault_from_thread 0 threads) (is_done threads)

abbrev pub ending_text : Shown → List ℕ
ending_text (shown.Fault kind thread) = codes "fault " ++ fault_text (fault_from kind) ++
    codes " thread " ++ decimal thread
ending_text shown.Done = codes "done"
ending_text shown.Halted = codes "halted"
