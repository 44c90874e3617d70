-- Steps that are no events and no calls of builtins, and the marks of them.
use Rattle.std.specs.Prelude.{◌≡◌, ℕ, Bool, false, List, length}
use Rattle.marks.specs.declared.side.Side.{Side}
use Rattle.marks.specs.Marks.{Mark}
use Rattle.replay_runs.specs.Runs.{OfThread, new_events}
use Rattle.whole_runs.specs.World.{World}
use Rattle.whole_runs.specs.Tests.{is_back}
use Rattle.recorder_threads.specs.declared.wants.Want.{Want}
use Rattle.recorder_threads.specs.declared.wants.Want.TheVariants as told
use Rattle.reference_recorder_marks.specs.declared.mark.Act.{Act}
use Rattle.reference_recorder_marks.specs.declared.mark.Mark.{Mark as Told}
use Rattle.reference_recorder_marks.specs.Marks.{past}
use Rattle.reference_recorder_rules.specs.Steps.{IsMadeAs, IsToMake}

-- a run comes to these marks, and this is the thread's next step, of which no test fails
abbrev pub IsNextStep : World → List Told → (thread : ℕ) → Side → Want → Type 0
IsNextStep w marks t side said = (args : List ℕ) × IsToMake w marks t side args said

-- this is the mark of it
abbrev pub IsStepMark : World → List Told → (thread : ℕ) → Side → Want → Told → Type 0
IsStepMark w marks t side said made = (args : List ℕ) (to : IsToMake w marks t side args said) →
    IsMadeAs w to.at.past.run to.at.step made

-- what code wants that gets a frame for the function: it calls it, or calls it through its address where
-- that is no call back
pub data WantsFrame (w : World) (run : List Mark) (func : ℕ) : Want → Type 0 where
  by_call : (indirect : Bool) (size : ℕ) → WantsFrame w run func (told.Enter indirect func size)
  by_address : (size : ℕ) → is_back w run func ≡ false → WantsFrame w run func (told.CallBack func size)

-- the thread's next step gets such a frame
pub record IsNextFrame (w : World) (marks : List Told) (thread : ℕ) (side : Side) (func : ℕ)
    (args : List ℕ) : Type 0 where
  pub said : Want
  pub to : IsToMake w marks thread side args said
  pub frame : WantsFrame w to.at.past.run func said

-- the mark after these of this thread on this side that does this
abbrev pub next_after : List Told → (thread : ℕ) → Side → Act → Told
next_after marks t side act = record {
  thread = t;
  side = side;
  index = length (new_events (OfThread t) (past marks));
  act = act;
}
