-- Which run has come to these marks, where ranges are gone through.
use Rattle.std.specs.Prelude.{List}
use Rattle.marks.specs.Marks.{Mark}
use Rattle.whole_runs.specs.World.{World}
use Rattle.reference_recorder_marks.specs.Marks.{past}
use Rattle.reference_recorder_scans.specs.Found.{IsLow}
use Rattle.reference_recorder_uses.specs.declared.past.Past.{Past}
use Rattle.reference_recorder_uses.specs.Pasts.{IsPastOf}

-- the run has come to these marks, and no byte from 2^31 on lives
pub record IsLowPastOf (w : World) (p : List Mark) (run : Past) : Type 0 where
  pub is : IsPastOf w p run
  pub low : IsLow w (past run.marks.now)
