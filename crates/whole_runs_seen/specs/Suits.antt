-- Answers that carry a value of the type that is asked for, so that they lead on.
use Rattle.std.specs.Prelude.{◌≡◌, ◌⊎◌, ℕ, ◌<◌, true, List, Some}
use Rattle.marks.specs.Marks.{Mark}
use Rattle.marks.specs.Wants.{Want, Outside, Turns, Loads, Stores, Enters, Leaves, Allocs, Frees, Calls, Below, Gives, Returns, CallsBack, UpReturns, Steps, Fails, Answer, Go, Value, Frame, CalledBack, Stopped}
use Rattle.c_code.specs.declared.shape.Shape.{Shape}
use Rattle.c_code.specs.declared.shape.Shape.TheVariants.{Pointer}
use Rattle.c_code.specs.Values.{is_value}
use Rattle.c_code.specs.Machine.{Laid}
use Rattle.c_code.specs.MarkLists.{Next, Quiet, Wants, Ends, No, reply, result_of}
use Rattle.c_code.specs.Typed.{AreArguments}
use Rattle.replay_runs.specs.Runs.{marks_of, EndsWithEvent, history}
use Rattle.replay_runs.specs.Records.{record_of}
use Rattle.replay_runs.specs.Laws.{NoneLeft, WhollyOfProgram}
use Rattle.whole_runs.specs.declared.ending.Ending.{Ending}
use Rattle.whole_runs.specs.World.{World, begin, program_of}
use Rattle.whole_runs.specs.Sides.{seen}
use Rattle.whole_runs.specs.Outcomes.{started}
use Rattle.whole_runs.specs.Threads.{comes, in_replay_mode}
use Rattle.whole_runs.specs.Steps.{Picked, IsMade}
use Rattle.whole_runs.specs.Ends.{Follows, IsRun}
use Rattle.whole_runs.specs.Fits.{IsFit}

-- any number
abbrev pub IsNumber : Answer → Type 0
IsNumber Go = ⊥
IsNumber (Value v) = Unit {0}
IsNumber (Frame at) = ⊥
IsNumber (CalledBack g args) = ⊥
IsNumber Stopped = ⊥

-- a value of the type
abbrev pub IsOfType : Shape → Answer → Type 0
IsOfType shape Go = ⊥
IsOfType shape (Value v) = is_value shape v ≡ true
IsOfType shape (Frame at) = ⊥
IsOfType shape (CalledBack g args) = ⊥
IsOfType shape Stopped = ⊥

-- a frame at an address
abbrev pub IsFrame : Answer → Type 0
IsFrame Go = ⊥
IsFrame (Value v) = ⊥
IsFrame (Frame at) = is_value Pointer at ≡ true
IsFrame (CalledBack g args) = ⊥
IsFrame Stopped = ⊥

-- a frame, or an Up with arguments of the function
abbrev pub IsFrameOrBack : Laid → (func : ℕ) → (args : List ℕ) → Answer → Type 0
IsFrameOrBack l f args Go = ⊥
IsFrameOrBack l f args (Value v) = ⊥
IsFrameOrBack l f args (Frame at) = is_value Pointer at ≡ true
IsFrameOrBack l f args (CalledBack g bs) = AreArguments l f args
IsFrameOrBack l f args Stopped = ⊥

-- the answer carries what is asked for; where nothing is, any answer leads on
abbrev pub Suits : Laid → Want → Answer → Type 0
Suits l Outside x = ⊥
Suits l Turns x = Unit {0}
Suits l (Loads o at n) x = IsNumber x
Suits l (Stores o at bytes) x = Unit {0}
Suits l (Enters i f args bytes) x = IsFrame x
Suits l (Leaves at n) x = Unit {0}
Suits l (Allocs n) x = IsOfType Pointer x
Suits l (Frees at) x = Unit {0}
Suits l (Calls i f args) x = Unit {0}
Suits l (Below f args) x = ⊥
Suits l (Gives f args) x = IsOfType (result_of l f) x
Suits l (Returns f args v) x = Unit {0}
Suits l (CallsBack f args bytes) x = IsFrameOrBack l f args x
Suits l (UpReturns f v) x = Unit {0}
Suits l (Steps i f args) x = IsOfType (result_of l f) x
Suits l (Fails kind) x = ⊥

-- each step of a run gives such an answer
abbrev pub AnswersSuit : World → Type 0
AnswersSuit w = (past : List Mark) → Follows w past → (s : Picked w past) (m : Mark) → IsMade w past s m →
    (x : Answer) → reply s.side s.want m ≡ Some x → Suits w.laid s.want x

-- the code of a thread wants something, or has ended
abbrev pub IsHere : Next → Type 0
IsHere (Quiet c) = ⊥
IsHere (Wants side want to) = Unit {0}
IsHere (Ends v) = Unit {0}
IsHere No = ⊥

-- then no thread that was started is lost
abbrev pub SuitedAnswersLoseNoThread : World → Type 0
SuitedAnswersLoseNoThread w = IsFit w → AnswersSuit w → (past : List Mark) → Follows w past → (t : ℕ) →
    t < started past → IsHere (comes w past t)

-- and at the end of a run no thread is left above the cut without a Stop
abbrev pub SuitedAnswersLeaveNone : World → Type 0
SuitedAnswersLeaveNone w = IsFit w → AnswersSuit w → (run : List Mark) (e : Ending) → IsRun w run e →
    NoneLeft (program_of w) (begin w) (seen run)

-- and after its steps the last mark of a thread above the cut is an event, or the thread stands in replay
-- mode
abbrev pub SuitedThreadsEndOrStand : World → Type 0
SuitedThreadsEndOrStand w = IsFit w → AnswersSuit w → (past : List Mark) → Follows w past → (t : ℕ) →
    t < started past → EndsWithEvent (marks_of (begin w) t (seen past)) ⊎ (in_replay_mode w past t ≡ true)

-- so a whole run is one of the program: its history is that of a run which ends with events and leaves no
-- thread above the cut
abbrev pub SuitedRunsAreOfTheProgram : World → Type 0
SuitedRunsAreOfTheProgram w = IsFit w → AnswersSuit w → (run : List Mark) (e : Ending) → IsRun w run e →
    WhollyOfProgram (program_of w) (begin w) (λ t. history record_of (begin w) t run)
