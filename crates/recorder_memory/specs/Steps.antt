-- What it says that a step of a whole run is made, or refused.
use Rattle.std.specs.Prelude.{◌≡◌, ℕ, true, false, List, ◌∷◌}
use Rattle.marks.specs.declared.side.Side.{Side}
use Rattle.marks.specs.declared.side.Side.TheVariants.{Replay, System}
use Rattle.marks.specs.Marks.{Act, Mark}
use Rattle.marks.specs.Wants.{Want, Outside, Turns, Loads, Stores, Enters, Leaves, Allocs, Frees, Calls, Below, Gives, Returns, CallsBack, UpReturns, Steps, Fails}
use Rattle.replay_runs.specs.Rules.{KeepsModes}
use Rattle.steps_above_memory.specs.declared.refusal.StepRefusal.{StepRefusal}
use Rattle.steps_above_memory.specs.Refusals.{IsFound}
use Rattle.whole_runs.specs.World.{World, interface}
use Rattle.whole_runs.specs.Sides.{events_by}
use Rattle.whole_runs.specs.Tests.{is_back, tests}
use Rattle.whole_runs.specs.Steps.{Picked, IsMade}
use Rattle.whole_runs.specs.Ends.{Follows}
use Rattle.whole_runs.specs.Fits.{IsFit}
use Rattle.recorder_memory.specs.declared.memory.Memory.{Memory}
use Rattle.recorder_memory.specs.Stands.{StandsForRun}

-- ---- before a step

-- a function that code below the cut calls through a pointer isn't called back, and may run there
abbrev pub MayRunBelow : World → List Mark → Want → Type 0
MayRunBelow w past Outside = Unit {0}
MayRunBelow w past Turns = Unit {0}
MayRunBelow w past (Loads origin at width) = Unit {0}
MayRunBelow w past (Stores origin at bytes) = Unit {0}
MayRunBelow w past (Enters indirect f args bytes) = indirect ≡ true → (interface w).may_run System f ≡ true
MayRunBelow w past (Leaves at size) = Unit {0}
MayRunBelow w past (Allocs size) = Unit {0}
MayRunBelow w past (Frees at) = Unit {0}
MayRunBelow w past (Calls indirect f args) = Unit {0}
MayRunBelow w past (Below f args) = Unit {0}
MayRunBelow w past (Gives f args) = Unit {0}
MayRunBelow w past (Returns f args v) = Unit {0}
MayRunBelow w past (CallsBack f args bytes) = (is_back w past f ≡ false) ×
    ((interface w).may_run System f ≡ true)
MayRunBelow w past (UpReturns f v) = Unit {0}
MayRunBelow w past (Steps indirect f args) = indirect ≡ true → (interface w).may_run System f ≡ true
MayRunBelow w past (Fails kind) = Unit {0}

-- the functions of the step keep their modes, which is tested before all else
abbrev pub MayRun : World → List Mark → Side → Want → Type 0
MayRun w past Replay want = KeepsModes (interface w) want
MayRun w past System want = MayRunBelow w past want

-- a run for which memory stands comes to a step of this thread, whose code wants this on this side
pub record ComesTo (w : World) (past : List Mark) (memory : Memory) (t : ℕ) (side : Side) (want : Want) :
    Type 0 where
  pub fit : IsFit w
  pub follows : Follows w past
  pub stands : StandsForRun w past memory
  pub step : Picked w past
  pub thread : step.thread ≡ t
  pub side_is : step.side ≡ side
  pub want_is : step.want ≡ want
  pub modes : MayRun w past side want

-- ---- after it

-- the mark of a thread that does this next, where that is no event
abbrev pub next_mark : World → List Mark → (thread : ℕ) → Side → Act → Mark
next_mark w past t side act = record {
  thread = t;
  side = side;
  index = events_by w t past;
  act = act;
}

-- this mark of the picked thread is the next one of the run, and memory stands for the run with it
pub record IsMarked (w : World) (past : List Mark) (s : Picked w past) (act : Act) (new : Memory) :
    Type 0 where
  pub made : IsMade w past s (next_mark w past s.thread s.side act)
  pub stands : StandsForRun w (next_mark w past s.thread s.side act ∷ past) new

-- whatever run comes to the step, it is made by a mark that does this
abbrev pub Makes : Memory → (thread : ℕ) → Side → Want → Act → Memory → Type 0
Makes old t side want act new = (w : World) (past : List Mark) → (to : ComesTo w past old t side want) →
    IsMarked w past to.step act new

-- whatever run comes to it, its tests find why it is refused
abbrev pub Refuses : Memory → (thread : ℕ) → Side → Want → StepRefusal → Type 0
Refuses old t side want refusal = (w : World) (past : List Mark) → ComesTo w past old t side want →
    IsFound (tests w past t side want) refusal
