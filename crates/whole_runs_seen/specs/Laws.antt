-- What a replay sees of a whole run is a run by the rules of replays.
use Rattle.std.specs.Prelude.{◌≡◌, ℕ, List}
use Rattle.marks.specs.Marks.{Mark}
use Rattle.replay_runs.specs.Runs.{history}
use Rattle.replay_runs.specs.Unseen.{Calm}
use Rattle.replay_runs.specs.Laws.{IsReplayRun}
use Rattle.replay_runs.specs.Records.{record_of}
use Rattle.whole_runs.specs.declared.ending.Ending.{Ending}
use Rattle.whole_runs.specs.World.{World, begin, program_of}
use Rattle.whole_runs.specs.Sides.{seen}
use Rattle.whole_runs.specs.Ends.{Follows, IsRun}
use Rattle.whole_runs.specs.Fits.{IsFit}
use Rattle.whole_runs_laws.specs.Exists.{EndsAreThere, FaultsCanBeMet}

-- of the steps of a run it sees a run of the program, without a race or a fault, in which frames end in order
abbrev pub StepsAreSeenAsRuns : World → Type 0
StepsAreSeenAsRuns w = IsFit w → (past : List Mark) → Follows w past →
    Calm (program_of w) (begin w) (seen past)

-- the frame that code above the cut ends and the block that it frees are there
abbrev pub EndsOfRunsAreThere : World → Type 0
EndsOfRunsAreThere w = IsFit w → EndsAreThere w

-- so each fault that the tests of a step find can be met
abbrev pub FaultsOfRunsCanBeMet : World → Type 0
FaultsOfRunsCanBeMet w = IsFit w → FaultsCanBeMet w

-- what it sees of a run is one by its rules, without a race and with one fault at most, and has the run's
-- history
pub record IsSeenAsRun (w : World) (run : List Mark) : Type 0 where
  pub disciplined : IsReplayRun (program_of w) (begin w) (seen run)
  pub histories : (t : ℕ) → history record_of (begin w) t (seen run) ≡ history record_of (begin w) t run

-- so it is of each whole run, with the fault and the Stops that end it
abbrev pub RunsAreSeenAsRuns : World → Type 0
RunsAreSeenAsRuns w = IsFit w → (run : List Mark) (e : Ending) → IsRun w run e → IsSeenAsRun w run
