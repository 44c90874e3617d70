-- How a recording ends.
use Rattle.std.specs.Prelude.{◌≡◌, ℕ, List, ◌++◌}
use Rattle.marks.specs.declared.side.Side.{Side}
use Rattle.marks.specs.Marks.{Mark}
use Rattle.replay_runs.specs.Checks.{Passes}
use Rattle.space_memory_laws.specs.StandsFor.{StandsFor}
use Rattle.steps_above_memory.specs.declared.refusal.StepRefusal.{StepRefusal}
use Rattle.steps_above_memory.specs.Refusals as refusals
use Rattle.whole_runs.specs.declared.ending.Ending.{Ending}
use Rattle.whole_runs.specs.World.{World, begin}
use Rattle.whole_runs.specs.Sides.{seen}
use Rattle.whole_runs.specs.Tests.{tests}
use Rattle.whole_runs.specs.Steps.{Picked}
use Rattle.whole_runs.specs.Ends.{Follows, IsLast, IsMadeEvent, Lacks}
use Rattle.whole_runs.specs.Fits.{IsFit}
use Rattle.recorder_memory.specs.Stands.{StandsForSeen}
use Rattle.recorder_book.specs.declared.room.Room.{Room}
use Rattle.recorder_book.specs.Book.{IsRoomFor}
use Rattle.recorder_state.specs.declared.state.RunState.{RunState}
use Rattle.recorder_state.specs.declared.stop.Stop.{Stop}
use Rattle.recorder_state.specs.declared.stop.Stop.TheVariants as stop
use Rattle.recorder_state.specs.Stands.{IsShownAfter}

-- the run ends so, and the state is what is left of it, but for the Stops
pub record IsEnded (w : World) (s : RunState) (e : Ending) : Type 0 where
  pub fit : IsFit w
  pub past : List Mark
  pub follows : Follows w past
  pub last : List Mark
  pub ends : IsLast w past last e
  pub spaces : StandsFor (begin w) (seen (last ++ past)) s.memory.above.spaces
  pub shown : IsShownAfter w (last ++ past) s

-- where there is no memory nothing is said
abbrev pub IsStopped : World → RunState → Stop → Type 0
IsStopped w s (stop.Ended e) = IsEnded w s e
IsStopped w s stop.Memory = Unit {0}

-- ---- a step that isn't made

-- a run comes to a step of this thread on this side; what is shown of the state is as before it, and so is
-- memory above the cut
pub record IsBrokenOff (w : World) (s : RunState) (t : ℕ) (side : Side) : Type 0 where
  pub fit : IsFit w
  pub past : List Mark
  pub follows : Follows w past
  pub seen : StandsForSeen w past s.memory
  pub shown : IsShownAfter w past s
  pub step : Picked w past
  pub thread : step.thread ≡ t
  pub side_is : step.side ≡ side

-- its tests find this
pub record IsRefused (w : World) (s : RunState) (t : ℕ) (side : Side) (refusal : StepRefusal) : Type 0 where
  pub at : IsBrokenOff w s t side
  pub found : refusals.IsFound (tests w at.past t side at.step.want) refusal

-- they pass, but the file has no more answers of the function
pub record LacksAnswer (w : World) (s : RunState) (t : ℕ) (side : Side) (func : ℕ) : Type 0 where
  pub at : IsBrokenOff w s t side
  pub passes : Passes (tests w at.past t side at.step.want)
  pub lacks : Lacks w at.past at.step func

-- it would be an event, for which this is the room
pub record HasRoom (w : World) (s : RunState) (t : ℕ) (side : Side) (room : Room) : Type 0 where
  pub at : IsBrokenOff w s t side
  pub mark : Mark
  pub made : IsMadeEvent w at.past at.step mark
  pub room_is : IsRoomFor at.past mark room
