-- What comes after a state.
use Rattle.std.specs.Prelude.{◌≡◌, ℕ, ◌<◌, true, Option, Some, None}
use Rattle.marks.specs.declared.side.Side.{Side}
use Rattle.system_side.specs.Threads.{is_ready}
use Rattle.whole_runs.specs.World.{World}
use Rattle.whole_runs.specs.Outcomes.{started}
use Rattle.whole_runs.specs.Picks.{can_step, stepping}
use Rattle.whole_runs.specs.Steps.{GoesOn, Picked}
use Rattle.recorder_threads.specs.declared.wants.Want.{Want}
use Rattle.recorder_threads.specs.declared.wants.Want.TheVariants as told
use Rattle.recorder_threads.specs.Threads.{args_at}
use Rattle.recorder_threads.specs.Wants.{IsTold}
use Rattle.recorder_state.specs.declared.state.RunState.{RunState}
use Rattle.recorder_state.specs.declared.turn.Turn.{Turn}
use Rattle.recorder_state.specs.declared.turn.Turn.TheVariants as turn
use Rattle.recorder_state.specs.Stands.{IsReached}
use Rattle.recorder_state.specs.Ends.{IsEnded}

-- a run comes to the state, and its next step is one of this thread, whose code wants this on this side
pub record IsAtStep (w : World) (s : RunState) (t : ℕ) (side : Side) (want : Want) : Type 0 where
  pub reached : IsReached w s
  pub step : Picked w reached.past
  pub thread : step.thread ≡ t
  pub side_is : step.side ≡ side
  pub told : IsTold w.laid (args_at s.threads t) want step.want

-- the run ends, or goes on with this step
abbrev pub IsTurn : World → RunState → Turn → Type 0
IsTurn w s (turn.Ended e) = IsEnded w s e
IsTurn w s (turn.Step t side want) = IsAtStep w s t side want

-- ---- on the way to it

-- the run goes on, if a thread can step
pub record IsTrying (w : World) (s : RunState) : Type 0 where
  pub reached : IsReached w s
  pub goes_on : GoesOn w reached.past

-- this thread is tried: it makes the step if it can
pub record IsTried (w : World) (s : RunState) (t : ℕ) : Type 0 where
  pub trying : IsTrying w s
  pub started : t < started trying.reached.past
  pub steps_if : can_step w trying.reached.past t ≡ true → stepping w trying.reached.past ≡ Some t
  pub ready : is_ready s.system.threads t ≡ true

-- the function of a call of a builtin or external that waits for its result
abbrev pub asked_func : Want → Option ℕ
asked_func told.Turn = None
asked_func (told.Load at n) = None
asked_func (told.Store at n v) = None
asked_func (told.Enter indirect f size) = None
asked_func told.Leave = None
asked_func (told.Alloc n) = None
asked_func (told.Free at) = None
asked_func (told.Call indirect f) = None
asked_func (told.Give f) = Some f
asked_func (told.Return f v) = None
asked_func (told.CallBack f size) = None
asked_func (told.UpReturn v) = None
asked_func (told.Step indirect f) = Some f
asked_func (told.Fault n) = None
