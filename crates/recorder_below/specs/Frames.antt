-- Steps below the cut in which a function is entered.
use Rattle.std.specs.Prelude.{◌≡◌, ℕ, Bool, true, false}
use Rattle.marks.specs.declared.side.Side.TheVariants.{System}
use Rattle.whole_runs.specs.World.{World}
use Rattle.whole_runs.specs.Tests.{is_back}
use Rattle.recorder_threads.specs.declared.wants.Want.{Want as Told}
use Rattle.recorder_threads.specs.declared.wants.Want.TheVariants as told
use Rattle.recorder_memory.specs.Below.{Calling, Plainly, ThroughPointer}
use Rattle.recorder_state.specs.declared.state.RunState.{RunState}
use Rattle.recorder_state.specs.Turns.{IsAtStep}

-- what code that does so wants
abbrev pub told_of : Calling → (func size : ℕ) → Told
told_of (Plainly indirect) f size = told.Enter indirect f size
told_of ThroughPointer f size = told.CallBack f size

-- a pointer names the function
abbrev pub is_named : Calling → Bool
is_named (Plainly indirect) = indirect
is_named ThroughPointer = true

-- the next step of the run gives the function a frame, and is no call back
pub record IsEntering (w : World) (s : RunState) (t : ℕ) (named : Bool) (f size : ℕ) : Type 0 where
  pub how : Calling
  pub named_is : named ≡ is_named how
  pub at : IsAtStep w s t System (told_of how f size)
  pub plain : how ≡ ThroughPointer → is_back w at.reached.past f ≡ false
