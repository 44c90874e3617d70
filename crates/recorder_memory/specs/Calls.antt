-- Calls.
use Rattle.std.specs.Prelude.{ℕ, ◌≡◌, Bool, List, ◌∷◌, All}
use Rattle.run_events.specs.declared.key.Key.{Key}
use Rattle.marks.specs.declared.side.Side.TheVariants.{Replay}
use Rattle.marks.specs.Ranges.{Piece, piece_ranges}
use Rattle.marks.specs.Marks.{Call, Mark}
use Rattle.marks.specs.Wants.{Calls}
use Rattle.replay_runs.specs.Checks.{Checks, Passes}
use Rattle.space_memory_laws.specs.Calls.{IsShown}
use Rattle.space_memory_laws.specs.CallChecks.{Wanted}
use Rattle.steps_above_memory.specs.declared.parts.CallRegions.{CallRegions}
use Rattle.steps_above_memory.specs.declared.refusal.StepRefusal.{StepRefusal}
use Rattle.steps_above_memory.specs.Calls.{prepares}
use Rattle.steps_above_memory.specs.Refusals.{IsFound}
use Rattle.whole_runs.specs.World.{World, interface}
use Rattle.whole_runs.specs.Tests.{tests}
use Rattle.recorder_memory.specs.declared.memory.Memory.{Memory}
use Rattle.recorder_memory.specs.Stands.{StandsForRun}
use Rattle.recorder_memory.specs.Steps.{ComesTo}
use Rattle.recorder_memory.specs.Events.{IsNextEvent}

-- the tests of a Call with these regions have this property, whatever run comes to it
abbrev pub AtCall : Memory → (thread : ℕ) → CallRegions → (Checks → Type 0) → Type 0
AtCall memory t regions P = (w : World) (past : List Mark) (indirect : Bool) (func : ℕ) (args : List ℕ) →
    ComesTo w past memory t Replay (Calls indirect func args) →
    Wanted (interface w) indirect func args regions.ins.now regions.outs.now (prepares regions) →
    P (tests w past t Replay (Calls indirect func args))

-- they find nothing, or why it is refused
abbrev pub TakesCall : Memory → (thread : ℕ) → CallRegions → Type 0
TakesCall memory t regions = AtCall memory t regions Passes

abbrev pub RefusesCall : Memory → (thread : ℕ) → CallRegions → StepRefusal → Type 0
RefusesCall memory t regions refusal = AtCall memory t regions (λ cs. IsFound cs refusal)

-- the next mark of a run is a Call of the thread with these regions, which reads these bytes of memory
pub record IsNextCall (w : World) (past : List Mark) (memory : Memory) (t : ℕ) (regions : CallRegions)
    (keys : List Key) (m : Mark) : Type 0 where
  pub func : ℕ
  pub args : List ℕ
  pub read : List Piece
  pub next : IsNextEvent w past t keys (Call func args read regions.outs.now (prepares regions)) m
  pub ins_are : piece_ranges read ≡ regions.ins.now
  pub shown : All (IsShown memory.above.spaces.bytes) read

-- whatever run makes it, memory stands for the run with it
abbrev pub MakesCall : Memory → (thread : ℕ) → CallRegions → List Key → Memory → Type 0
MakesCall old t regions keys new = (w : World) (past : List Mark) (m : Mark) → StandsForRun w past old →
    IsNextCall w past old t regions keys m → StandsForRun w (m ∷ past) new

-- where memory stands for a run, it is as it was
abbrev pub LeavesAll : Memory → Memory → Type 0
LeavesAll old new = (w : World) (past : List Mark) → StandsForRun w past old → new ≡ old
