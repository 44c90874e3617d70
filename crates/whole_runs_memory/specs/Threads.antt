-- The threads of a whole run: how many there are, what each answers from one beginning on, and what it ends.
use Rattle.std.specs.Prelude.{◌≡◌, ℕ, ◌≤◌, List, Some}
use Rattle.marks.specs.Places.{thread_count, builtin_count}
use Rattle.marks.specs.Marks.{Mark}
use Rattle.marks.specs.Ranges.{range}
use Rattle.marks.specs.Wants.{Leaves, Returns}
use Rattle.c_code.specs.MarkLists.{Split}
use Rattle.c_code.specs.Opens.{AreAnswers, EndsInnermost, opens_by}
use Rattle.whole_runs.specs.World.{World}
use Rattle.whole_runs.specs.Sides.{own, frames_on}
use Rattle.whole_runs.specs.Outcomes.{started}
use Rattle.whole_runs.specs.Threads.{beginning}
use Rattle.whole_runs.specs.Steps.{Picked}
use Rattle.whole_runs.specs.Ends.{Follows}
use Rattle.whole_runs.specs.Fits.{IsFit}
use Rattle.whole_runs_memory.specs.Plain.{first_of}

-- the functions from whose bodies code returns are of the source: builtins have none
abbrev pub ReturnsAreFromSource : World → Type 0
ReturnsAreFromSource w = IsFit w → (past : List Mark) → Follows w past → (s : Picked w past) → (f : ℕ)
    (args : List ℕ) (result : ℕ) → s.want ≡ Returns f args result → builtin_count ≤ f

-- no more threads are started than there may be
abbrev pub ThreadsAreFew : World → Type 0
ThreadsAreFew w = IsFit w → (past : List Mark) → Follows w past → started past ≤ thread_count

-- each of a thread's own marks answers what its code wants after those before it, from one beginning on
abbrev pub ThreadsAnswerTheirCode : World → Type 0
ThreadsAnswerTheirCode w = IsFit w → (past : List Mark) (t : ℕ) → Follows w past →
    AreAnswers Split w.laid (beginning w past t) (own w t past)

-- code ends what is innermost: the frame of its side, the call below which it is, the call back
abbrev pub CodeEndsInnermost : World → Type 0
CodeEndsInnermost w = IsFit w → (past : List Mark) → Follows w past → (s : Picked w past) →
    EndsInnermost s.side s.want (opens_by (own w s.thread past))

-- so a frame that it leaves is the innermost one there
abbrev pub LeavesInnermost : World → Type 0
LeavesInnermost w = IsFit w → (past : List Mark) → Follows w past → (s : Picked w past) → (at size : ℕ) →
    s.want ≡ Leaves at size → first_of (frames_on w s.side s.thread past) ≡ Some (range at size)
