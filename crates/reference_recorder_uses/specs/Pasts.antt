-- Which run has come to these marks.
use Rattle.std.specs.Prelude.{◌≡◌, List}
use Rattle.marks.specs.Marks.{Mark}
use Rattle.whole_runs.specs.World.{World}
use Rattle.reference_recorder_marks.specs.Marks.{past, without_origins}
use Rattle.reference_recorder_uses.specs.declared.past.Past.{Past}

-- the run begins with these objects and has come to these marks, which don't say with which global a path
-- begins
pub record IsPastOf (w : World) (p : List Mark) (run : Past) : Type 0 where
  pub placed : w.laid.placed ≡ run.placed.now
  pub same : without_origins p ≡ past run.marks.now
