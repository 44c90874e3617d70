-- Laws of whole runs.
use Rattle.std.specs.Prelude.{◌≡◌, ℕ, List}
use Rattle.marks.specs.declared.side.Side.{Side}
use Rattle.marks.specs.declared.fault.FaultKind.{FaultKind}
use Rattle.marks.specs.Marks.{Mark}
use Rattle.marks.specs.Wants.{Want}
use Rattle.replay_runs.specs.Checks.{FaultFound}
use Rattle.replay_runs.specs.Decided.{Decided}
use Rattle.whole_runs.specs.declared.ending.Ending.{Ending}
use Rattle.whole_runs.specs.World.{World}
use Rattle.whole_runs.specs.Tests.{tests}
use Rattle.whole_runs.specs.Steps.{Picked, IsMade, IsFault}
use Rattle.whole_runs.specs.Ends.{IsFound, IsRun}

-- the tests of a step pass, or find one thing
abbrev pub TestsDecide : World → Type 0
TestsDecide w = (past : List Mark) (t : ℕ) (side : Side) (want : Want) → Decided (tests w past t side want)

-- after each past there is one mark that a step can make
abbrev pub StepsAreDetermined : World → Type 0
StepsAreDetermined w = (past : List Mark) (m n : Mark) (s r : Picked w past) → IsMade w past s m →
    IsMade w past r n → m ≡ n

-- and one that is the fault which the tests find
abbrev pub FaultsAreDetermined : World → Type 0
FaultsAreDetermined w = (past : List Mark) (m n : Mark) (kind : FaultKind) (s r : Picked w past) →
    IsFound w past r (FaultFound kind) → IsFault w past s kind m → IsFault w past r kind n → m ≡ n

-- there is one run, which ends in one way
abbrev pub OneRun : World → Type 0
OneRun w = (run ran : List Mark) (e f : Ending) → IsRun w run e → IsRun w ran f → (run ≡ ran) × (e ≡ f)
