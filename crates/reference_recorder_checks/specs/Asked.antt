-- What is asked of the tests of a step.
use Rattle.std.specs.Prelude.{◌≡◌, ℕ, Bool, true, false, List, Some}
use Rattle.marks.specs.declared.side.Side.{Side}
use Rattle.marks.specs.Ranges.{range}
use Rattle.marks.specs.Marks.{Mark}
use Rattle.marks.specs.Wants.{Want, Leaves, Gives, Steps}
use Rattle.stub_meaning.specs.Meaning.{first_of}
use Rattle.whole_runs.specs.World.{World}
use Rattle.whole_runs.specs.Sides.{frames_on}
use Rattle.whole_runs.specs.Below.{given}
use Rattle.recorder_threads.specs.declared.wants.Want.{Want as Told}
use Rattle.recorder_threads.specs.declared.wants.Want.TheVariants as told
use Rattle.recorder_threads.specs.Wants.{IsTold}
use Rattle.reference_recorder_given.specs.declared.gives.Given.{Given as ToldGiven}
use Rattle.reference_recorder_given.specs.Given.{shown}

-- the want of a thread on a side is told so; where it waits for the result of a builtin or external, or calls
-- one below the cut, it is given this; and the frame that it leaves is its innermost one there
pub record IsAsked (w : World) (past : List Mark) (t : ℕ) (side : Side) (args : List ℕ) (said : Told)
    (gave : ToldGiven) (want : Want) : Type 0 where
  pub told : IsTold w.laid args said want
  pub gives : (f : ℕ) → want ≡ Gives f args → shown gave ≡ given w past t f args
  pub steps : (i : Bool) (f : ℕ) → want ≡ Steps i f args → shown gave ≡ given w past t f args
  pub leaves : (at size : ℕ) → want ≡ Leaves at size →
      first_of (frames_on w side t past) ≡ Some (range at size)

-- above the cut, what answers it is an event
abbrev pub wants_event : Told → Bool
wants_event told.Turn = false
wants_event (told.Load at n) = false
wants_event (told.Store at n v) = false
wants_event (told.Enter indirect f size) = false
wants_event told.Leave = false
wants_event (told.Alloc n) = true
wants_event (told.Free at) = true
wants_event (told.Call indirect f) = true
wants_event (told.Give f) = true
wants_event (told.Return f v) = true
wants_event (told.CallBack f size) = true
wants_event (told.UpReturn v) = true
wants_event (told.Step indirect f) = false
wants_event (told.Fault n) = false
