-- What threads of a fit world hand over.
use Rattle.std.specs.Prelude.{◌≡◌, ℕ, ◌<◌, List, Some}
use Rattle.marks.specs.Marks.{Mark}
use Rattle.whole_runs.specs.World.{World}
use Rattle.whole_runs.specs.Outcomes.{started}
use Rattle.whole_runs.specs.Threads.{result_of}
use Rattle.whole_runs.specs.Ends.{Follows}
use Rattle.whole_runs.specs.Fits.{IsFit}
use Rattle.recorder_system.specs.Stands.{IsInt, asked_by, call_of}
use Rattle.recorder_system.specs.Calls.{HasInt}

-- arguments of builtins that are to be ints are, and so are results of threads
pub record HandsInts (w : World) (past : List Mark) (t : ℕ) : Type 0 where
  pub calls : (f : ℕ) (args : List ℕ) → asked_by w past t ≡ Some (call_of f args) → HasInt f args
  pub ends : (v : ℕ) → result_of w past t ≡ Some v → IsInt v

abbrev pub ThreadsHandInts : World → Type 0
ThreadsHandInts w = IsFit w → (past : List Mark) → Follows w past → (t : ℕ) → t < started past →
    HandsInts w past t
