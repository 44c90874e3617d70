-- What a run comes to at its end.
use Rattle.std.specs.Prelude.{◌≡◌, ◌++◌, List}
use Rattle.marks.specs.Marks.{Mark}
use Rattle.whole_runs.specs.declared.ending.Ending.{Ending}
use Rattle.whole_runs.specs.World.{World}
use Rattle.whole_runs.specs.Ends.{Follows, IsLast, IsRun}
use Rattle.whole_runs.specs.Fits.{IsFit}
use Rattle.reference_recorder_marks.specs.declared.mark.Mark.{Mark as Told}
use Rattle.reference_recorder_marks.specs.Marks.{past as past_of, without_origins}

-- all steps of a run, and after them the mark of the fault that ends it, if one does, are these marks, which
-- don't say with which global a path begins
pub record IsPastAtEnd (w : World) (marks : List Told) : Type 0 where
  pub fit : IsFit w
  pub past : List Mark
  pub follows : Follows w past
  pub last : List Mark
  pub ending : Ending
  pub ends : IsLast w past last ending
  pub same : without_origins (last ++ past) ≡ past_of marks

-- a whole run, with its Stops, is these marks
pub record IsWholeRun (w : World) (marks : List Told) : Type 0 where
  pub fit : IsFit w
  pub run : List Mark
  pub ending : Ending
  pub is_run : IsRun w run ending
  pub same : without_origins run ≡ past_of marks
