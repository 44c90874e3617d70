-- How many activations of a thread are open, and what each mark makes of it.
use Rattle.std.specs.Prelude.{List, Some, length, ℕ, ◌+◌, ◌<◌, ◌∷◌, ◌≡◌, ◌≤◌}
use Rattle.marks.specs.declared.side.Side.{Side}
use Rattle.marks.specs.declared.fault.FaultKind.{FaultKind}
use Rattle.marks.specs.Marks.{Mark}
use Rattle.marks.specs.Wants.{Answer}
use Rattle.c_code.specs.MarkLists.{reply}
use Rattle.c_machine.specs.Moves.{ThreadState, open_on}
use Rattle.c_machine.specs.Follows.{MayTell, after_report, report}
use Rattle.whole_runs.specs.World.{World}
use Rattle.whole_runs.specs.Sides.{frames_on}
use Rattle.whole_runs.specs.Outcomes.{started}
use Rattle.whole_runs.specs.Steps.{Picked, IsFault}
use Rattle.whole_runs.specs.Ends.{Follows}
use Rattle.whole_runs.specs.Fits.{IsFit}
use Rattle.recorder_threads.specs.Threads.{AreThreadsOf, most_open, place_of, thread_of}

-- no more activations are open on a side than there are frames, and one that waits for its frame: where there
-- is room for a frame, one more may begin
abbrev pub ActivationsHaveFrames : World → Type 0
ActivationsHaveFrames w = IsFit w → (past : List Mark) → Follows w past → (t : ℕ) → t < started past →
    (side : Side) → open_on side (place_of w past t) ≤ length (frames_on w side t past) + 1

-- so there are no more than a thread may have
abbrev pub ActivationsAreFew : World → Type 0
ActivationsAreFew w = IsFit w → (past : List Mark) → Follows w past → (t : ℕ) → t < started past →
    (side : Side) → open_on side (place_of w past t) ≤ most_open

-- the thread that is told of its mark is where its code is after it
pub record IsFollowed (w : World) (past : List Mark) (m : Mark) (s : Picked w past)
    (x : Answer) : Type 0 where
  pub may : MayTell w.laid (thread_of w past m.thread) (report (thread_of w past m.thread).config s.want x)
  pub follows : after_report w.laid (thread_of w past m.thread)
      (report (thread_of w past m.thread).config s.want x) ≡ thread_of w (m ∷ past) m.thread

abbrev pub EachStepIsFollowed : World → Type 0
EachStepIsFollowed w = IsFit w → (past : List Mark) (m : Mark) (f : Follows w (m ∷ past)) (x : Answer) →
    reply f.0.step.side f.0.step.want m ≡ Some x → IsFollowed w past m f.0.step x

-- a fault leaves all threads where they are
abbrev pub FaultsLeaveThreads : World → Type 0
FaultsLeaveThreads w = (past : List Mark) (s : Picked w past) (kind : FaultKind) (m : Mark) →
    IsFault w past s kind m → (threads : List ThreadState) → AreThreadsOf w past threads →
    AreThreadsOf w (m ∷ past) threads
