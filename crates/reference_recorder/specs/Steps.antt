-- What comes after the marks of a run, which don't say with which globals paths begin.
use Rattle.std.specs.Prelude.{◌≡◌, ℕ, ◌<◌, List, [], length, Option, Some, None}
use Rattle.std.specs.Option.{option_to_list}
use Rattle.marks.specs.Marks.{Mark}
use Rattle.c_machine.specs.Moves.{ThreadState}
use Rattle.whole_runs.specs.declared.ending.Ending.{Ending}
use Rattle.whole_runs.specs.declared.ending.Ending.TheVariants as ending
use Rattle.whole_runs.specs.declared.ending.Halt.{Halt}
use Rattle.whole_runs.specs.World.{World}
use Rattle.whole_runs.specs.Picks.{stepping}
use Rattle.whole_runs.specs.Below.{Given, ByPool, Says, NoMore, given}
use Rattle.whole_runs.specs.Steps.{GoesOn, Picked}
use Rattle.whole_runs.specs.Ends.{IsLast, IsNext}
use Rattle.recorder_threads.specs.Threads.{args_at}
use Rattle.recorder_state.specs.declared.turn.Turn.{Turn}
use Rattle.recorder_state.specs.declared.turn.Turn.TheVariants as turn
use Rattle.reference_recorder_marks.specs.declared.mark.Mark.{Mark as Told}
use Rattle.reference_recorder_marks.specs.Marks.{past as past_of, without_origins}
use Rattle.reference_recorder_threads.specs.Telling.{IsPast}
use Rattle.reference_recorder_rules.specs.Steps.{IsAtStep, IsMadeAs, IsShownAs}
use Rattle.reference_recorder.specs.declared.steps.Coming.{Coming}
use Rattle.reference_recorder.specs.declared.steps.Coming.TheVariants as coming

-- ---- whose step it is

-- this thread makes the next step
pub record IsNextThread (w : World) (past : List Mark) (thread : ℕ) : Type 0 where
  pub goes_on : GoesOn w past
  pub picked : stepping w past ≡ Some thread

-- the run ends before a step is tested, or this thread steps next, whose code wants this
abbrev pub IsTurn : (w : World) (marks : List Told) → IsPast w marks → List ThreadState → Turn → Type 0
IsTurn w marks p threads (turn.Ended e) = IsLast w p.run [] e
IsTurn w marks p threads (turn.Step t side want) = (t < length threads) ×
    ((at : IsAtStep w marks t side (args_at threads t) want) × (at.past ≡ p))

-- ---- what calls come to

-- where the code waits for the result of the function, its call comes to this
abbrev pub IsGivenFor : World → List Mark → (thread : ℕ) → (args : List ℕ) → Option ℕ → Given → Type 0
IsGivenFor w past t args None g = Unit {0}
IsGivenFor w past t args (Some f) g = g ≡ given w past t f args

-- the function of which an answer is lacking
abbrev pub lacks : Option ℕ → Given → Option ℕ
lacks func ByPool = None
lacks func (Says result pieces) = None
lacks func NoMore = func

-- ---- what comes

-- a run comes to the marks, and its next thread makes this one
pub record IsMadeMark (w : World) (marks : List Told) (told : Told) : Type 0 where
  pub past : IsPast w marks
  pub step : Picked w past.run
  pub made : IsMadeAs w past.run step told

-- it is the next mark of the run
pub record IsNextAs (w : World) (past : List Mark) (told : Told) : Type 0 where
  pub mark : Mark
  pub same : IsShownAs mark told
  pub next : IsNext w past mark

-- the run ends so, after the mark of a fault or none
pub record IsEndAs (w : World) (past : List Mark) (last : Option Told) (ending : Ending) : Type 0 where
  pub mark : List Mark
  pub same : without_origins mark ≡ past_of (option_to_list last)
  pub ends : IsLast w past mark ending

-- there is room for the mark, which is the next one of the run, or the run is halted in its place
abbrev pub IsRoomFor : (w : World) → List Mark → Told → Option Halt → Type 0
IsRoomFor w past told None = IsNextAs w past told
IsRoomFor w past told (Some why) = IsEndAs w past None (ending.Halted why)

-- what comes is the next mark of the run, or its end
abbrev pub ComesNext : (w : World) (marks : List Told) → IsPast w marks → Coming → Type 0
ComesNext w marks p (coming.Mark told) = IsNextAs w p.run told
ComesNext w marks p (coming.End last ending) = IsEndAs w p.run last ending
