-- What a mark of a run leaves of its threads, what room there is for their frames, and what their code is given.
use Rattle.std.specs.Prelude.{◌≡◌, ◌≢◌, ◌⊎◌, ℕ, suc, ◌<◌, ◌≤◌, true, false, List, ◌∷◌, length, Some}
use Rattle.marks.specs.declared.side.Side.{Side}
use Rattle.marks.specs.Places.{frame_count}
use Rattle.marks.specs.Marks.{Mark}
use Rattle.replay_runs.specs.Runs.{EndsWithEvent, history, marks_of}
use Rattle.replay_runs.specs.Records.{record_of}
use Rattle.replay_runs.specs.Laws.{NoneLeft, WhollyOfProgram}
use Rattle.whole_runs.specs.declared.ending.Ending.{Ending}
use Rattle.whole_runs.specs.World.{World, begin, program_of}
use Rattle.whole_runs.specs.Sides.{own, frames_on, seen}
use Rattle.whole_runs.specs.Outcomes.{Outcome, act_outcome, is_start, started}
use Rattle.whole_runs.specs.Threads.{beginning, comes, in_replay_mode}
use Rattle.whole_runs.specs.Ends.{Follows, IsRun}
use Rattle.whole_runs.specs.Fits.{IsFit}
use Rattle.whole_runs_seen.specs.Suits.{AnswersSuit, IsHere}

-- a mark is one of its own thread alone
abbrev pub OtherMarksStay : World → Type 0
OtherMarksStay w = (past : List Mark) (m : Mark) (t : ℕ) → m.thread ≢ t → own w t (m ∷ past) ≡ own w t past

-- what a thread began with stays
abbrev pub BeginningsStay : World → Type 0
BeginningsStay w = IsFit w → (past : List Mark) (m : Mark) → Follows w (m ∷ past) → (t : ℕ) →
    t < started past → beginning w (m ∷ past) t ≡ beginning w past t

-- a mark that comes to no result, or to that of another call than one that starts a thread, starts none
abbrev pub OtherMarksStartNone : Type 0
OtherMarksStartNone = (past : List Mark) (m : Mark) →
    ((o : Outcome) → act_outcome m.thread m.act ≡ Some o → is_start o ≡ false) →
    started (m ∷ past) ≡ started past

-- one that comes to that of a call which starts a thread starts one, and the result is its number
abbrev pub StartsAreNumbered : World → Type 0
StartsAreNumbered w = IsFit w → (past : List Mark) (m : Mark) → Follows w (m ∷ past) → (o : Outcome) →
    act_outcome m.thread m.act ≡ Some o → is_start o ≡ true → (started (m ∷ past) ≡ suc (started past)) ×
    (o.result ≡ started past)

-- no thread has more frames on a side than there may be
abbrev pub FramesAreFew : World → Type 0
FramesAreFew w = IsFit w → (past : List Mark) → Follows w past → (t : ℕ) (side : Side) →
    length (frames_on w side t past) ≤ frame_count

-- each step of a run gives an answer of the type that is asked for
abbrev pub StepsSuit : World → Type 0
StepsSuit w = IsFit w → AnswersSuit w

-- so no thread that was started is lost: its code wants something, or has ended
abbrev pub NoThreadIsLost : World → Type 0
NoThreadIsLost w = IsFit w → (past : List Mark) → Follows w past → (t : ℕ) → t < started past →
    IsHere (comes w past t)

-- at the end of a run none is left above the cut without a Stop
abbrev pub NoThreadIsLeft : World → Type 0
NoThreadIsLeft w = IsFit w → (run : List Mark) (e : Ending) → IsRun w run e →
    NoneLeft (program_of w) (begin w) (seen run)

-- after its steps the last mark of a thread above the cut is an event, or the thread stands in replay mode
abbrev pub ThreadsEndOrStand : World → Type 0
ThreadsEndOrStand w = IsFit w → (past : List Mark) → Follows w past → (t : ℕ) → t < started past →
    EndsWithEvent (marks_of (begin w) t (seen past)) ⊎ (in_replay_mode w past t ≡ true)

-- and a whole run is one of the program: its history is that of a run which ends with events and leaves no
-- thread above the cut
abbrev pub RunsAreOfTheProgram : World → Type 0
RunsAreOfTheProgram w = IsFit w → (run : List Mark) (e : Ending) → IsRun w run e →
    WhollyOfProgram (program_of w) (begin w) (λ t. history record_of (begin w) t run)
