-- What systems have to do with marks and with code.
use Rattle.std.specs.Prelude.{◌≡◌, ℕ, ◌≤◌, true, List, ◌∷◌, Some, None}
use Rattle.marks.specs.Places.{builtin_count}
use Rattle.marks.specs.Marks.{Mark}
use Rattle.marks.specs.Wants.{Returns}
use Rattle.c_code.specs.Machine.{Laid}
use Rattle.c_code.specs.Valid.{IsValid}
use Rattle.c_code.specs.Typed.{AreArguments}
use Rattle.system_side.specs.System.{SystemState}
use Rattle.whole_runs.specs.World.{World}
use Rattle.whole_runs.specs.Outcomes.{act_outcome, builtin_of, outcome}
use Rattle.whole_runs.specs.Threads.{result_of}
use Rattle.whole_runs.specs.Picks.{can_step, is_free}
use Rattle.whole_runs.specs.Steps.{IsMade, Picked}
use Rattle.recorder_system.specs.Stands.{IsSystemBut, IsSystemOf, asked_by, call_of}
use Rattle.recorder_system.specs.Calls.{HasInt, IsOutcome}

-- a mark in which no call comes to its result leaves the system standing, but that it may end its thread
abbrev pub PlainMarksKeepTheSystem : Type 0
PlainMarksKeepTheSystem = (w : World) (past : List Mark) (m : Mark) (s : SystemState) →
    can_step w past m.thread ≡ true → act_outcome m.thread m.act ≡ None → IsSystemOf w past s →
    IsSystemBut m.thread w (m ∷ past) s

-- where the thread has not ended, there is nothing to be told
abbrev pub ThreadsGoOn : Type 0
ThreadsGoOn = (w : World) (past : List Mark) (t : ℕ) (s : SystemState) → result_of w past t ≡ None →
    IsSystemBut t w past s → IsSystemOf w past s

-- a thread that is picked can step
abbrev pub PickedThreadsCanStep : Type 0
PickedThreadsCanStep = (w : World) (past : List Mark) (s : Picked w past) →
    can_step w past s.thread ≡ true

-- the call that the code of a thread waits for needn't wait where the thread can step
abbrev pub CallsAreFree : Type 0
CallsAreFree = (w : World) (past : List Mark) (t f : ℕ) (args : List ℕ) →
    asked_by w past t ≡ Some (call_of f args) → can_step w past t ≡ true →
    is_free w past t args (builtin_of f) ≡ true

-- functions from whose bodies code returns are of the source
abbrev pub ReturnsFromSource : (w : World) (past : List Mark) → Picked w past → Type 0
ReturnsFromSource w past s = (f : ℕ) (args : List ℕ) (result : ℕ) → s.want ≡ Returns f args result →
    builtin_count ≤ f

-- then a step of a run in which a call comes to its result is one that the system is told of
abbrev pub StepsAreOutcomes : Type 0
StepsAreOutcomes = (w : World) (past : List Mark) (s : Picked w past) (m : Mark) (f : ℕ) (args : List ℕ)
    (v : ℕ) → ReturnsFromSource w past s → IsMade w past s m →
    act_outcome m.thread m.act ≡ Some (outcome m.thread f args v) → IsOutcome w past s.thread f args m

-- arguments of builtins that are ints by their types are ints
abbrev pub ArgumentsAreInts : Type 0
ArgumentsAreInts = (l : Laid) (f : ℕ) (args : List ℕ) → IsValid l.code → AreArguments l f args →
    HasInt f args
