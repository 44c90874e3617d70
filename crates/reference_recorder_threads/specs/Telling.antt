-- What the threads of a run are told of each mark.
use Rattle.std.specs.Prelude.{◌≡◌, ◌≤◌, ℕ, Bool, true, false, List, [], ◌∷◌, length, Option, Some, None}
use Rattle.marks.specs.Ranges.{number_of_bytes}
use Rattle.marks.specs.Marks.{EventKind, Call, Ret, Up, UpRet, Alloc, Free, Stop, Act, Turn, Load, Store, Enter, Leave, Step, Fault, Made, Mark}
use Rattle.marks.specs.Wants.{Value}
use Rattle.c_code.specs.MarkLists.{reply}
use Rattle.c_machine.specs.Moves.{ThreadState}
use Rattle.whole_runs.specs.World.{World}
use Rattle.whole_runs.specs.Outcomes.{Outcome, is_start}
use Rattle.whole_runs.specs.Ends.{Follows}
use Rattle.whole_runs.specs.Fits.{IsFit}
use Rattle.recorder_threads.specs.Answers.{IsNoCall}
use Rattle.recorder_threads.specs.Threads.{AreThreadsOf}
use Rattle.recorder_threads.specs.declared.wants.Next.{Next}
use Rattle.recorder_threads.specs.declared.wants.Next.TheVariants as next
use Rattle.recorder_threads.specs.declared.wants.Want.{Want}
use Rattle.recorder_threads.specs.declared.wants.Want.TheVariants as told
use Rattle.reference_recorder_marks.specs.declared.mark.Mark.{Mark as Told}
use Rattle.reference_recorder_marks.specs.Marks.{mark_of, past, without_origin, without_origins}
use Rattle.reference_recorder_threads.specs.declared.report.Report.{Report}
use Rattle.reference_recorder_threads.specs.declared.report.Report.TheVariants as report
use Rattle.reference_recorder_threads.specs.declared.starts.Start.{Start}

-- ---- what is given

-- a run comes to these marks, which don't say with which global a path begins
pub record IsPast (w : World) (marks : List Told) : Type 0 where
  pub fit : IsFit w
  pub run : List Mark
  pub same : without_origins run ≡ past marks
  pub follows : Follows w run

-- and these are its threads
abbrev pub AreThreadsAfter : World → List Told → List ThreadState → Type 0
AreThreadsAfter w marks threads = (p : IsPast w marks) → AreThreadsOf w p.run threads

-- a run makes the mark next, after marks that the threads stand for
pub record IsMarkNext (w : World) (threads : List ThreadState) (marked : Told) : Type 0 where
  pub fit : IsFit w
  pub past : List Mark
  pub mark : Mark
  pub same : record mark { act = without_origin mark.act } ≡ mark_of marked
  pub follows : Follows w (mark ∷ past)
  pub stand : AreThreadsOf w past threads

-- the code of its thread asked for a value, and the mark gives it this
pub record IsValueNext (w : World) (threads : List ThreadState) (marked : Told) (value : ℕ) : Type 0 where
  pub next : IsMarkNext w threads marked
  pub no_call : IsNoCall next.follows.0.step.want
  pub answers : reply next.follows.0.step.side next.follows.0.step.want next.mark ≡ Some (Value value)

-- ---- what is told

-- a builtin or external is to give its result
abbrev pub gives_want : Want → Bool
gives_want told.Turn = false
gives_want (told.Load at n) = false
gives_want (told.Store at n v) = false
gives_want (told.Enter i f size) = false
gives_want told.Leave = false
gives_want (told.Alloc n) = false
gives_want (told.Free at) = false
gives_want (told.Call i f) = false
gives_want (told.Give f) = true
gives_want (told.Return f v) = false
gives_want (told.CallBack f size) = false
gives_want (told.UpReturn v) = false
gives_want (told.Step i f) = false
gives_want (told.Fault n) = false

-- the thread's code waits for such a result
abbrev pub gives_next : Next → Bool
gives_next (next.Ended v) = false
gives_next (next.Wants side want) = gives_want want

-- the value that a Ret brings is told where a builtin or external gave it: code of a function with a body
-- has it
abbrev pub ret_report : (gives : Bool) → (result : ℕ) → Report
ret_report true v = report.Value v
ret_report false v = report.Go

-- what the thread that makes an event is told of it
abbrev pub event_report : (gives : Bool) → EventKind → Report
event_report g (Call f args ins outs prepared) = report.Crosses
event_report g (Ret f args v same outs commit) = ret_report g v
event_report g (Up f args) = report.Up
event_report g (UpRet f v) = report.Go
event_report g (Alloc at size) = report.Value at
event_report g (Free at size) = report.Go
event_report g (Stop fault) = report.Nothing

-- what the thread that makes a mark is told of it
abbrev pub act_report : (gives : Bool) → Act → Report
act_report g Turn = report.Go
act_report g (Load o at bytes) = report.Value (number_of_bytes bytes)
act_report g (Store o at bytes) = report.Go
act_report g (Enter f args at bytes) = report.Frame at
act_report g (Leave at size) = report.Go
act_report g (Step f args v ins pieces freed) = report.Value v
act_report g (Fault kind crosses ins outs access) = report.Nothing
act_report g (Made e) = event_report g e.kind

-- no more bytes are loaded than a word has
abbrev pub IsShort : Act → Type 0
IsShort Turn = Unit {0}
IsShort (Load o at bytes) = length bytes ≤ 8
IsShort (Store o at bytes) = Unit {0}
IsShort (Enter f args at bytes) = Unit {0}
IsShort (Leave at size) = Unit {0}
IsShort (Step f args v ins pieces freed) = Unit {0}
IsShort (Fault kind crosses ins outs access) = Unit {0}
IsShort (Made e) = Unit {0}

-- ---- threads that are started

-- the call starts a thread with an address and an argument
pub record StartsWith (comes : Option Outcome) (address argument : ℕ) : Type 0 where
  pub outcome : Outcome
  pub is : comes ≡ Some outcome
  pub starts : is_start outcome ≡ true
  pub args : outcome.args ≡ address ∷ argument ∷ []

-- what a call starts a thread with, if it starts one
abbrev pub IsStartOf : Option Outcome → Option Start → Type 0
IsStartOf comes (Some s) = StartsWith comes s.address s.argument
IsStartOf comes None = (address argument : ℕ) → ¬ StartsWith comes address argument

-- the address and the argument that these are, if they are two
abbrev pub IsPair : List ℕ → Option Start → Type 0
IsPair args (Some s) = args ≡ s.address ∷ s.argument ∷ []
IsPair args None = (address argument : ℕ) → ¬ (args ≡ address ∷ argument ∷ [])
