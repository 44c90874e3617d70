-- Small sources whose global `n` the mutex 0 guards, in which nothing is found, and marks of a thread that
-- begins with the first function, called back above the cut.
use Rattle.std.specs.Prelude.{◌≡◌, ℕ, ℤ, pos, ◌==◌, Bool, true, false, if◌then◌else◌, List, [], ◌∷◌, ◌++◌, codes, replicate, Some, None, reverse}
use Rattle.r2_num.specs.declared.kinds.IntKind.TheVariants.{I32}
use Rattle.marks.specs.declared.side.Side.TheVariants.{Replay, System}
use Rattle.marks.specs.Marks.{Act, Call, Enter, Leave, Mark, NoRegion, Ret, Step, Store, Up}
use Rattle.marks.specs.Places.{function_address}
use Rattle.replay_runs.specs.Runs.{In}
use Rattle.marks.specs.Wants.{Want, Stores}
use Rattle.c_code.specs.MarkLists.{Expects}
use Rattle.c_builtins.specs.declared.builtin.Builtin.{Builtin}
use Rattle.c_builtins.specs.declared.builtin.Builtin.TheVariants.{Lock, Unlock}
use Rattle.c_types_model.specs.Types.{CType, FunctionOf, NoTypes}
use Rattle.c_types_rules.specs.Sources.{Function, Global}
use Rattle.c_types_rules.specs.TypedTree as typed
use Rattle.c_types_rules.specs.TypedTree.{Assigned, Block, BuiltinFunction, CallOf, Constant, Convert, Evaluate, GlobalObject, MoreStatements, MoreValues, NoStatements, NoValues, OneValue, Return, SourceFunction, Statement, Statements, int}
use Rattle.c_semantics.specs.Calls.{thread_behaviour}
use Rattle.c_semantics.specs.Context.{Source}
use Rattle.c_semantics.specs.Reading.{Marks}
use Rattle.cut_graph_reached.specs.Answers.{ModesKept, ReachesKept}
use Rattle.lockset_check_rules.specs.Guards.{Guarded}
use Rattle.lockset_check_rules.specs.Sources.{source_found}
use Rattle.lockset_check_laws.specs.Order.{AtEach, IsExclusive, IsKeyed, Rises, TakesFree, Touches}
use Rattle.lockset_check_laws.specs.Examples.{event, unlocked, unlocks}
use Rattle.lockset_check_laws.specs.Examples as laws
use Rattle.lockset_check_threads.specs.Wants.{KeepsLocks, calls}
use Rattle.lockset_check_threads.specs.Laws.{AreMade, IsGuarded, RunsWell}

-- ---- sources

abbrev pub plain : CType
plain = FunctionOf int NoTypes

abbrev number : ℕ → typed.Value
number n = Convert int (Constant I32 (pos n))

-- r2_lock(0); and r2_unlock(0);
abbrev locking : Builtin → Statement
locking b = Evaluate (CallOf (BuiltinFunction 0 b) (MoreValues (number 0) NoValues) int)

-- n = 1;
abbrev sets_n : Statement
sets_n = Evaluate (Assigned (GlobalObject 0 0 int) (number 1))

-- the function 17 is called
abbrev calls_second : Statement
calls_second = Evaluate (CallOf (SourceFunction 0 17) NoValues int)

abbrev returns_0 : Statement
returns_0 = Return 0 (OneValue (number 0))

abbrev listed : List Statement → Statements
listed [] = NoStatements
listed (z ∷ zs) = MoreStatements z (listed zs)

abbrev function_of : List Statement → Function
function_of zs = record {
  name = codes "f";
  type = plain;
  body = Some (record
      { from = 0; locals = []; statements = Block (listed zs); in_params = []; unevaluated = [] });
}

abbrev global_n : Global
global_n = record { name = codes "n"; type = int; value = None; unevaluated = [] }

-- builtins from `r2_spawn` on are in the interface, and of the functions those that this says
abbrev pub source_of : List Function → List Bool → Source
source_of fs faces = record {
  program = record { structs = []; functions = fs; globals = global_n ∷ []; names = [] };
  texts = [];
  placed =
      record {
        globals = record { addr = 268435456; init = [] } ∷ [];
        strings = [];
        replay = [];
        system = [];
        faces = (false ∷ false ∷ replicate 5 true) ++ replicate 9 false ++ faces;
      };
}

abbrev pub guards_of : List Function → (holds : ℕ → List ℤ) → Guarded
guards_of fs holds = record {
  functions = fs;
  globals = global_n ∷ [];
  guard = λ place. if place == 0 then Some (pos 0) else None;
  holds = holds;
}

abbrev pub none_hold : ℕ → List ℤ
none_hold f = []

abbrev pub first_holds : ℕ → List ℤ
first_holds f = if f == 16 then pos 0 ∷ [] else []

abbrev pub all_run : ℕ → Bool
all_run f = true

-- r2_lock(0); n = 1; r2_unlock(0); return 0;
abbrev pub locked : List Function
locked = function_of (locking Lock ∷ sets_n ∷ locking Unlock ∷ returns_0 ∷ []) ∷ []

-- n = 1; return 0; in a function whose callers hold the mutex
abbrev pub lent : List Function
lent = function_of (sets_n ∷ returns_0 ∷ []) ∷ []

-- r2_lock(0); f(); n = 1; r2_unlock(0); return 0; and r2_lock(0); r2_unlock(0); return 0; in f, below the cut
abbrev pub locked_below : List Function
locked_below = function_of (locking Lock ∷ calls_second ∷ sets_n ∷ locking Unlock ∷ returns_0 ∷ []) ∷
    function_of (locking Lock ∷ locking Unlock ∷ returns_0 ∷ []) ∷ []

-- ---- marks

abbrev above : Act → Mark
above a = record { thread = 1; side = Replay; index = 0; act = a }

abbrev below : Act → Mark
below a = record { thread = 1; side = System; index = 0; act = a }

-- the first function is called back, and has a frame
abbrev pub begins : List Mark
begins = event 1 0 (Up 16 []) [] ∷ above (Enter 16 [] 805306368 (replicate 16 0)) ∷ []

abbrev pub locks : List Mark
locks = event 1 1 (Call 4 (0 ∷ []) [] [] []) [] ∷ event 1 2 (Ret 4 (0 ∷ []) 0 false [] NoRegion) [] ∷ []

-- the function 17 is called, locks and unlocks below the cut, and returns
abbrev pub locks_below : List Mark
locks_below =
    event 1 3 (Call 17 [] [] [] []) [] ∷ below (Enter 17 [] 1879048192 (replicate 16 0)) ∷
    below (Step 4 (0 ∷ []) 0 [] [] []) ∷ below (Step 5 (0 ∷ []) 0 [] [] []) ∷ below (Leave 1879048192 16) ∷
    event 1 4 (Ret 17 [] 0 false [] NoRegion) [] ∷ []

abbrev pub thread_of : Source → Marks
thread_of s = thread_behaviour s plain (function_address 16) []

-- n = 1
abbrev pub write : Want
write = Stores (Some 0) 268435456 (1 ∷ 0 ∷ 0 ∷ 0 ∷ [])

-- ---- marks of two threads

abbrev numbered : (thread index : ℕ) → Act → Mark
numbered t i a = record { thread = t; side = Replay; index = i; act = a }

-- a thread that has locked; n = 1; and then it unlocks
abbrev pub has_locked : ℕ → List Mark
has_locked t =
    laws.locked t 2 t ∷ event t 1 (Call 4 (0 ∷ []) [] [] []) [] ∷
    numbered t 1 (Enter 16 [] 805306368 (replicate 16 0)) ∷ event t 0 (Up 16 []) [] ∷ []

abbrev pub sets : ℕ → Mark
sets t = numbered t 3 (Store (Some 0) 268435456 (1 ∷ 0 ∷ 0 ∷ 0 ∷ []))

abbrev pub has_unlocked : ℕ → List Mark
has_unlocked t = unlocked t 4 ∷ unlocks t 3 t ∷ []

-- the thread 1 locks, writes and unlocks, and then the thread 2 locks; the newest first
abbrev pub one_and_two : List Mark
one_and_two = has_locked 2 ++ has_unlocked 1 ++ sets 1 ∷ has_locked 1

abbrev pub each_begins : ℕ → Marks
each_begins t = thread_of (source_of locked [])

-- ---- what is shown

-- nothing is found, and the thread comes to its write
pub record ComesToWrite (r : Guarded) (s : Source) (past : List Mark) : Type 0 where
  pub guarded : IsGuarded r s
  pub nothing : source_found r all_run ≡ []
  pub wants : thread_of s past ≡ Expects Replay write

-- a thread that runs well comes to a write
pub record SomeLocksAreKept : Type 0 where
  pub comes : ComesToWrite (guards_of locked none_hold) (source_of locked []) (begins ++ locks)
  pub well : RunsWell (guards_of locked none_hold) all_run (thread_of (source_of locked [])) (begins ++ locks)

-- where a pointer may reach a function whose callers hold a mutex, the thread has not taken it: all else is
-- kept
pub record PointersMustHoldNothing : Type 0 where
  pub comes : ComesToWrite (guards_of lent first_holds) (source_of lent []) begins
  pub reaches : ReachesKept (λ side f. all_run f ≡ true) (thread_of (source_of lent [])) begins
  pub locks : TakesFree calls (reverse begins)
  pub unheld : KeepsLocks (guards_of lent first_holds) Replay (reverse begins) write → ⊥

-- where code below the cut may take a mutex that the thread has taken, it gives that back: all else is kept
pub record MutexesMustBeFree : Type 0 where
  pub comes : ComesToWrite (guards_of locked_below none_hold)
      (source_of locked_below (false ∷ true ∷ [])) (begins ++ locks ++ locks_below)
  pub reaches : ReachesKept (λ side f. all_run f ≡ true)
      (thread_of (source_of locked_below (false ∷ true ∷ []))) (begins ++ locks ++ locks_below)
  pub pointers : ModesKept (λ side f. none_hold f ≡ [])
      (thread_of (source_of locked_below (false ∷ true ∷ []))) (begins ++ locks ++ locks_below)
  pub unheld : KeepsLocks (guards_of locked_below none_hold) Replay
      (reverse (begins ++ locks ++ locks_below)) write → ⊥

-- two threads touch the global one after the other, and all that the order of their accesses asks is so
pub record TwoThreadsTouch : Type 0 where
  pub made : AreMade (guards_of locked none_hold) all_run each_begins (sets 2 ∷ one_and_two)
  pub exclusive : AtEach (IsExclusive calls) (sets 2 ∷ one_and_two)
  pub keyed : AtEach (IsKeyed calls) (sets 2 ∷ one_and_two)
  pub rising : AtEach Rises (sets 2 ∷ one_and_two)
  pub touched_before : In (sets 1) one_and_two
  pub first : Touches (sets 1) 0
  pub second : Touches (sets 2) 0
