-- What the calls of a system say of each run that it stands for.
use Rattle.std.specs.Prelude.{◌≡◌, ℕ, ◌<◌, Bool, true, not, List, [], ◌∷◌, length, Option, Some, None, slice_get}
use Rattle.marks.specs.Marks.{Mark}
use Rattle.c_builtins.specs.declared.builtin.Builtin.{Builtin}
use Rattle.c_builtins.specs.declared.builtin.Builtin.TheVariants.{Malloc, Free, Spawn, Join, Lock, Unlock, Print}
use Rattle.c_builtins.specs.Table.{number_of}
use Rattle.c_code.specs.Machine.{first}
use Rattle.system_side.specs.declared.file.SysFile.{SysFile}
use Rattle.system_side.specs.declared.file.Scripted.{Scripted}
use Rattle.system_side.specs.Schedule.{wish_at}
use Rattle.system_side.specs.System.{SystemState}
use Rattle.whole_runs.specs.World.{World}
use Rattle.whole_runs.specs.Outcomes.{act_outcome, builtin_of, outcome, started}
use Rattle.whole_runs.specs.Threads.{result_of}
use Rattle.whole_runs.specs.Picks.{all_ended, can_step, is_free, stepping}
use Rattle.whole_runs.specs.Below.{ByPool, Says, NoMore, given}
use Rattle.whole_runs.specs.Below as below
use Rattle.recorder_system.specs.declared.given.Given.{Given}
use Rattle.recorder_system.specs.declared.given.Given.TheVariants as shown
use Rattle.recorder_system.specs.Stands.{IsInt, IsSystemBut, IsSystemOf, asked_by, call_of}

-- the system of each run of the file before its first mark
abbrev pub Begins : SysFile → SystemState → Type 0
Begins file s = (w : World) → w.file ≡ file → IsSystemOf w [] s

-- all threads have ended
abbrev pub TellsEnd : SystemState → Bool → Type 0
TellsEnd s ended = (w : World) (past : List Mark) → IsSystemOf w past s → ended ≡ all_ended w past

-- ---- who steps

-- the thread was started, and makes the next step if it can; where there is none, no thread can
abbrev pub IsTry : World → List Mark → Option ℕ → Type 0
IsTry w past None = stepping w past ≡ None
IsTry w past (Some t) = (t < started past) × (can_step w past t ≡ true → stepping w past ≡ Some t)

abbrev pub GivesTry : SystemState → (wish : ℕ) → Option ℕ → Type 0
GivesTry s wish t = (w : World) (past : List Mark) → IsSystemOf w past s →
    wish ≡ wish_at s.schedule (length past) → IsTry w past t

-- ---- calls of builtins and externals

-- an argument that is an int is one
abbrev pub TakesInt : Option Builtin → (arg : ℕ) → Type 0
TakesInt (Some Malloc) v = Unit {0}
TakesInt (Some Free) v = Unit {0}
TakesInt (Some Spawn) v = Unit {0}
TakesInt (Some Join) v = IsInt v
TakesInt (Some Lock) v = IsInt v
TakesInt (Some Unlock) v = IsInt v
TakesInt (Some Print) v = Unit {0}
TakesInt None v = Unit {0}

abbrev pub HasInt : (func : ℕ) → (args : List ℕ) → Type 0
HasInt f args = TakesInt (builtin_of f) (first args)

-- whatever run the system is of in which the thread calls this, it has to wait just where it can't step
abbrev pub TellsWait : (thread func : ℕ) → (args : List ℕ) → SystemState → Bool → Type 0
TellsWait t f args s waits = (w : World) (past : List Mark) → IsSystemOf w past s →
    asked_by w past t ≡ Some (call_of f args) → waits ≡ not (can_step w past t)

-- and the new system is of it too
abbrev pub KeepsRuns : (thread func : ℕ) → (args : List ℕ) → (old new : SystemState) → Type 0
KeepsRuns t f args old new = (w : World) (past : List Mark) → IsSystemOf w past old →
    asked_by w past t ≡ Some (call_of f args) → IsSystemOf w past new

-- what a call is given: an answer of the file by its place there
abbrev pub IsGiven : World → below.Given → Given → Type 0
IsGiven w g shown.ByPool = g ≡ ByPool
IsGiven w g (shown.Value v) = g ≡ Says v []
IsGiven w g (shown.Answer place) =
    (a : Scripted) × (slice_get w.file.answers place ≡ Some a) × (g ≡ Says a.result a.pieces)
IsGiven w g shown.NoMore = g ≡ NoMore

abbrev pub TellsGiven : (thread func : ℕ) → (args : List ℕ) → SystemState → Given → Type 0
TellsGiven t f args s g = (w : World) (past : List Mark) → IsSystemOf w past s →
    IsGiven w (given w past t f args) g

-- ---- marks

-- the mark is made by a thread that can step; its call of the function needn't wait, and comes to a result,
-- where it starts a thread to the one that is given
pub record IsOutcome (w : World) (past : List Mark) (thread func : ℕ) (args : List ℕ) (m : Mark) :
    Type 0 where
  pub of_thread : m.thread ≡ thread
  pub can : can_step w past thread ≡ true
  pub free : is_free w past thread args (builtin_of func) ≡ true
  pub result : ℕ
  pub outcome_is : act_outcome m.thread m.act ≡ Some (outcome thread func args result)
  pub starts : func ≡ number_of Spawn → given w past thread func args ≡ Says result []

-- whatever run the old system is of, the new one is of it with each such mark
abbrev pub Notes : (thread func : ℕ) → (args : List ℕ) → (old new : SystemState) → Type 0
Notes t f args old new = (w : World) (past : List Mark) (m : Mark) → IsOutcome w past t f args m →
    IsSystemOf w past old → IsSystemBut t w (m ∷ past) new

-- and in which the thread has ended with this result, the new system was told of it
abbrev pub NotesEnd : (thread result : ℕ) → (old new : SystemState) → Type 0
NotesEnd t v old new = (w : World) (past : List Mark) → result_of w past t ≡ Some v →
    IsSystemBut t w past old → IsSystemOf w past new
