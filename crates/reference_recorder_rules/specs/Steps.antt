-- What a step is made from, and the mark that is made, which doesn't say with which global a path begins.
use Rattle.std.specs.Prelude.{◌≡◌, ℕ, List}
use Rattle.marks.specs.declared.side.Side.{Side}
use Rattle.marks.specs.declared.fault.FaultKind.{FaultKind}
use Rattle.marks.specs.Marks.{Mark}
use Rattle.replay_runs.specs.Checks.{Passes}
use Rattle.whole_runs.specs.World.{World}
use Rattle.whole_runs.specs.Tests.{tests}
use Rattle.whole_runs.specs.Steps.{Picked, IsMade, IsFault}
use Rattle.recorder_threads.specs.declared.wants.Want.{Want}
use Rattle.recorder_threads.specs.Wants.{IsTold}
use Rattle.reference_recorder_marks.specs.declared.mark.Mark.{Mark as Told}
use Rattle.reference_recorder_marks.specs.Marks.{mark_of, without_origin}
use Rattle.reference_recorder_threads.specs.Telling.{IsPast}

-- a run comes to these marks, this thread makes its next step, and its code wants this on the side
pub record IsAtStep (w : World) (marks : List Told) (thread : ℕ) (side : Side) (args : List ℕ) (said : Want) :
    Type 0 where
  pub past : IsPast w marks
  pub step : Picked w past.run
  pub of_thread : step.thread ≡ thread
  pub on_side : step.side ≡ side
  pub told : IsTold w.laid args said step.want

-- and no test of the step fails
pub record IsToMake (w : World) (marks : List Told) (thread : ℕ) (side : Side) (args : List ℕ) (said : Want) :
    Type 0 where
  pub at : IsAtStep w marks thread side args said
  pub passes : Passes (tests w at.past.run at.step.thread at.step.side at.step.want)

-- both are the same mark, but for the global that a path begins with
abbrev pub IsShownAs : Mark → Told → Type 0
IsShownAs m told = record m { act = without_origin m.act } ≡ mark_of told

-- this is the mark of the step
pub record IsMadeAs (w : World) (past : List Mark) (s : Picked w past) (told : Told) : Type 0 where
  pub mark : Mark
  pub same : IsShownAs mark told
  pub made : IsMade w past s mark

-- this is the mark of a fault of this kind, in place of the step
pub record IsFaultAs (w : World) (past : List Mark) (s : Picked w past) (kind : FaultKind) (told : Told) :
    Type 0 where
  pub mark : Mark
  pub same : IsShownAs mark told
  pub fault : IsFault w past s kind mark
