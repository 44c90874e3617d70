-- Which runs a system stands for.
use Rattle.std.specs.Prelude.{◌≡◌, ℕ, ◌≤◌, ℤ, pos, true, if◌then◌else◌, ◌==◌, List, [], drop, filter, length, Option, Some, None, is_some, slice_get}
use Rattle.r2_num.specs.declared.kinds.IntKind.TheVariants.{I32}
use Rattle.marks.specs.Marks.{Mark}
use Rattle.c_builtins.specs.declared.builtin.Builtin.{Builtin}
use Rattle.c_builtins.specs.declared.builtin.Builtin.TheVariants.{Join, Lock}
use Rattle.c_builtins.specs.Table.{number_of}
use Rattle.c_code.specs.Builtins.{int}
use Rattle.c_code.specs.Values.{is_value, read, written}
use Rattle.c_code.specs.Machine.{first}
use Rattle.c_code.specs.MarkLists.{Next, Quiet, Wants, Ends, No}
use Rattle.system_side.specs.declared.threads.Wait.{Wait}
use Rattle.system_side.specs.declared.threads.Wait.TheVariants.{Mutex, Thread}
use Rattle.system_side.specs.declared.threads.Standing.{Standing}
use Rattle.system_side.specs.declared.threads.Standing.TheVariants.{Ready, Waits, Ended}
use Rattle.system_side.specs.Threads.{is_running, may_step}
use Rattle.system_side.specs.Answers.{left_of, places_of}
use Rattle.system_side.specs.System.{SystemState}
use Rattle.system_side.specs.System as system
use Rattle.whole_runs.specs.World.{World}
use Rattle.whole_runs.specs.Sides.{own}
use Rattle.whole_runs.specs.Outcomes.{builtin_of, holder, started, used}
use Rattle.whole_runs.specs.Threads.{comes, result_of}
use Rattle.whole_runs.specs.Picks.{Asked, asked, is_other}

-- ---- ints: a run has their patterns, a system their numbers

abbrev pub IsInt : ℕ → Type 0
IsInt v = is_value int v ≡ true

abbrev pub int_of : ℕ → ℤ
int_of v = read I32 v

-- ---- what threads call

abbrev pub call_of : (func : ℕ) → (args : List ℕ) → Asked
call_of f args = record { func = f; args = args }

abbrev pub next_asked : Next → Option Asked
next_asked (Quiet c) = None
next_asked (Wants side want to) = asked want
next_asked (Ends v) = None
next_asked No = None

-- the call of a builtin or external whose result the thread's code waits for
abbrev pub asked_by : World → List Mark → (thread : ℕ) → Option Asked
asked_by w past t = next_asked (comes w past t)

-- the thread calls the builtin with this first argument
pub record Asks (w : World) (past : List Mark) (thread : ℕ) (b : Builtin) (k : ℕ) : Type 0 where
  pub args : List ℕ
  pub call : asked_by w past thread ≡ Some (call_of (number_of b) args)
  pub first_is : first args ≡ k

-- ---- where threads stand. `told` has the result of each thread whose end the system was told of

-- a thread waits for a mutex that is held
pub record AwaitsMutex (w : World) (past : List Mark) (thread : ℕ) (m : ℤ) : Type 0 where
  pub mutex : ℕ
  pub is_int : IsInt mutex
  pub number : int_of mutex ≡ m
  pub asks : Asks w past thread Lock mutex
  pub held : is_some (holder mutex past) ≡ true

-- or for another thread, which hasn't ended
pub record AwaitsThread (w : World) (past : List Mark) (told : ℕ → Option ℕ) (thread : ℕ) (m : ℤ) :
    Type 0 where
  pub other : ℕ
  pub number : m ≡ pos other
  pub asks : Asks w past thread Join other
  pub is_another : is_other past thread other ≡ true
  pub runs : told other ≡ None

abbrev pub Awaits : World → List Mark → (told : ℕ → Option ℕ) → (thread : ℕ) → Wait → Type 0
Awaits w past told t (Mutex m) = AwaitsMutex w past t m
Awaits w past told t (Thread m) = AwaitsThread w past told t m

-- a thread that stands ready may have to wait too: it is blocked once it is tried
abbrev pub StandsAs : World → List Mark → (told : ℕ → Option ℕ) → (thread : ℕ) → Standing → Type 0
StandsAs w past told t Ready = told t ≡ None
StandsAs w past told t (Waits wait) = (told t ≡ None) × Awaits w past told t wait
StandsAs w past told t (Ended v) = told t ≡ Some (written v)

-- ---- the whole system

-- its threads are those that were started, a mutex is held by whom the run says, and of each external the
-- answers are left that the run hasn't used
pub record Stands (w : World) (past : List Mark) (told : ℕ → Option ℕ) (s : SystemState) : Type 0 where
  pub schedule : s.schedule ≡ w.file.schedule
  pub count : length s.threads ≡ started past
  pub threads : (t : ℕ) (at : Standing) → slice_get s.threads t ≡ Some at → StandsAs w past told t at
  pub mutexes : (k : ℕ) → IsInt k → system.holder s.held (int_of k) ≡ holder k past
  pub answers : (f : ℕ) → builtin_of f ≡ None →
      left_of s.left f ≡ drop (used f past) (places_of f 0 w.file.answers)
  pub silent : (t : ℕ) → started past ≤ t → own w t past ≡ []

-- the system is that of the run after these marks
abbrev pub IsSystemOf : World → List Mark → SystemState → Type 0
IsSystemOf w past s = Stands w past (result_of w past) s

-- the ends of all threads but one
abbrev pub result_but : (thread : ℕ) → World → List Mark → ℕ → Option ℕ
result_but t w past u = if u == t then None else result_of w past u

-- so it is, but for the end of the thread that made the last mark: it wasn't told whether that has ended
abbrev pub IsSystemBut : (thread : ℕ) → World → List Mark → SystemState → Type 0
IsSystemBut t w past s = Stands w past (result_but t w past) s

-- ---- what holds of each system

-- how many threads haven't ended
abbrev pub running_in : List Standing → ℕ
running_in threads = length (filter is_running threads)

-- how many stand ready
abbrev pub ready_in : List Standing → ℕ
ready_in threads = length (filter may_step threads)

pub record IsSound (running : ℕ) (s : SystemState) : Type 0 where
  pub few : length s.threads ≤ 32
  pub running_is : running ≡ running_in s.threads
