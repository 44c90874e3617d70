-- That there is a run: what has to be shown of one step.
use Rattle.std.specs.Prelude.{◌≡◌, ℕ, List}
use Rattle.marks.specs.declared.side.Side.TheVariants.{Replay, System}
use Rattle.marks.specs.declared.fault.FaultKind.{FaultKind}
use Rattle.marks.specs.Marks.{Mark}
use Rattle.replay_runs.specs.Checks.{FaultFound, Passes}
use Rattle.replay_runs.specs.Found.{EndsWhatIsThere}
use Rattle.whole_runs.specs.declared.ending.Ending.{Ending}
use Rattle.whole_runs.specs.World.{World, begin}
use Rattle.whole_runs.specs.Sides.{seen}
use Rattle.whole_runs.specs.Tests.{tests}
use Rattle.whole_runs.specs.Steps.{Picked, IsMade, IsFault}
use Rattle.whole_runs.specs.Ends.{Follows, IsFound, IsRun, Lacks}
use Rattle.whole_runs.specs.Fits.{IsFitFile}

-- there is a run
pub record HasRun (w : World) : Type 0 where
  pub run : List Mark
  pub ending : Ending
  pub is_run : IsRun w run ending

-- a mark is the step that the picked thread makes
pub record HasStep (w : World) (past : List Mark) (s : Picked w past) : Type 0 where
  pub mark : Mark
  pub made : IsMade w past s mark

-- a mark is the fault that its tests find
pub record HasFault (w : World) (past : List Mark) (s : Picked w past) (kind : FaultKind) : Type 0 where
  pub mark : Mark
  pub met : IsFault w past s kind mark

-- after what a run makes, a thread whose tests pass and that lacks no answer makes a step
abbrev pub StepsCanBeMade : World → Type 0
StepsCanBeMade w = (past : List Mark) → Follows w past → (s : Picked w past) →
    Passes (tests w past s.thread s.side s.want) → ((func : ℕ) → Lacks w past s func → ⊥) → HasStep w past s

-- and one whose tests find a fault meets it
abbrev pub FaultsCanBeMet : World → Type 0
FaultsCanBeMet w = (past : List Mark) → Follows w past → (s : Picked w past) → (kind : FaultKind) →
    IsFound w past s (FaultFound kind) → HasFault w past s kind

-- then there is a run: the steps of the budget are made one by one, until an end comes
abbrev pub StepsMakeARun : World → Type 0
StepsMakeARun w = StepsCanBeMade w → FaultsCanBeMet w → HasRun w

-- below the cut each fault that is found can be met, after any past
abbrev pub FaultsBelowCanBeMet : World → Type 0
FaultsBelowCanBeMet w = (past : List Mark) → (s : Picked w past) → s.side ≡ System → (kind : FaultKind) →
    IsFound w past s (FaultFound kind) → HasFault w past s kind

-- the frame that code above the cut ends, and the block that it frees, are there
abbrev pub EndsAreThere : World → Type 0
EndsAreThere w = (past : List Mark) → Follows w past → (s : Picked w past) → s.side ≡ Replay →
    EndsWhatIsThere (begin w) (seen past) s.want

-- then each fault that is found there can be met
abbrev pub FaultsAboveCanBeMet : World → Type 0
FaultsAboveCanBeMet w = IsFitFile w → EndsAreThere w → (past : List Mark) → Follows w past →
    (s : Picked w past) → s.side ≡ Replay → (kind : FaultKind) → IsFound w past s (FaultFound kind) →
    HasFault w past s kind

abbrev pub FaultsCanBeMetWhereTheyEnd : World → Type 0
FaultsCanBeMetWhereTheyEnd w = IsFitFile w → EndsAreThere w → FaultsCanBeMet w
