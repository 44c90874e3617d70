-- Steps below the cut of builtins.
use Rattle.std.specs.Prelude.{◌≡◌, ℕ, Bool, true, Some}
use Rattle.marks.specs.declared.side.Side.TheVariants.{System}
use Rattle.c_builtins.specs.declared.builtin.Builtin.{Builtin}
use Rattle.whole_runs.specs.World.{World, may_run}
use Rattle.whole_runs.specs.Outcomes.{builtin_of}
use Rattle.recorder_threads.specs.declared.wants.Want.TheVariants as told
use Rattle.recorder_state.specs.declared.state.RunState.{RunState}
use Rattle.recorder_state.specs.Turns.{IsAtStep}

-- the next step of the run is the thread's call of the builtin with this number, which keeps its mode
pub record IsAtBuiltin (w : World) (s : RunState) (t f : ℕ) (b : Builtin) : Type 0 where
  pub indirect : Bool
  pub at : IsAtStep w s t System (told.Step indirect f)
  pub may : indirect ≡ true → may_run w.laid.placed System f ≡ true
  pub builtin : builtin_of f ≡ Some b
