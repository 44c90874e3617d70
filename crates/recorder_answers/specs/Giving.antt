-- Steps in which a call of a builtin or external by code above the cut comes to its result.
use Rattle.std.specs.Prelude.{◌≡◌, ℕ, List}
use Rattle.marks.specs.declared.side.Side.TheVariants.{Replay}
use Rattle.whole_runs.specs.World.{World}
use Rattle.whole_runs.specs.Below.{Says, given}
use Rattle.recorder_threads.specs.declared.wants.Want.TheVariants as told
use Rattle.recorder_threads.specs.Threads.{args_at}
use Rattle.recorder_state.specs.declared.state.RunState.{RunState}
use Rattle.recorder_state.specs.Turns.{IsAtStep}

-- the next step of the run is the Ret of the thread's call of the function, which is given this value and these pieces
pub record IsGiving (w : World) (s : RunState) (t func value : ℕ) (pieces : List (List ℕ)) : Type 0 where
  pub at : IsAtStep w s t Replay (told.Give func)
  pub given_so : given w at.reached.past t func (args_at s.threads t) ≡ Says value pieces
