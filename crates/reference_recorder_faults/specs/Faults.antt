-- Steps in whose place a fault comes.
use Rattle.std.specs.Prelude.{◌≡◌, ℕ, List}
use Rattle.marks.specs.declared.side.Side.{Side}
use Rattle.marks.specs.declared.fault.FaultKind.{FaultKind}
use Rattle.marks.specs.Marks.{Mark}
use Rattle.replay_runs.specs.Checks.{FaultFound}
use Rattle.whole_runs.specs.World.{World}
use Rattle.whole_runs.specs.Steps.{Picked, IsFault}
use Rattle.whole_runs.specs.Ends.{IsFound}
use Rattle.recorder_threads.specs.declared.wants.Want.{Want}
use Rattle.reference_recorder_marks.specs.declared.mark.Act.{Act as Told}
use Rattle.reference_recorder_marks.specs.declared.mark.Mark.{Mark as ToldMark}
use Rattle.reference_recorder_marks.specs.Marks.{act_of}
use Rattle.reference_recorder_rules.specs.Steps.{IsAtStep}

-- a run comes to a step of which the tests find a fault of this kind
pub record IsAtFault (w : World) (marks : List ToldMark) (thread : ℕ) (side : Side) (args : List ℕ)
    (said : Want) (kind : FaultKind) : Type 0 where
  pub at : IsAtStep w marks thread side args said
  pub found : IsFound w at.past.run at.step (FaultFound kind)

-- this is what the mark of that fault does
pub record IsFaultAct (w : World) (run : List Mark) (s : Picked w run) (kind : FaultKind) (act : Told) :
    Type 0 where
  pub mark : Mark
  pub fault : IsFault w run s kind mark
  pub does : mark.act ≡ act_of act

-- such a run there is, whichever its marks
abbrev pub CanFault : World → Side → (args : List ℕ) → Want → FaultKind → Type 0
CanFault w side args said kind = (marks : List ToldMark) × (t : ℕ) × IsAtFault w marks t side args said kind

-- and this is what the fault does in each
abbrev pub IsActOfFault : World → Side → (args : List ℕ) → Want → FaultKind → Told → Type 0
IsActOfFault w side args said kind act = (marks : List ToldMark) (t : ℕ) →
    (f : IsAtFault w marks t side args said kind) → IsFaultAct w f.at.past.run f.at.step kind act
