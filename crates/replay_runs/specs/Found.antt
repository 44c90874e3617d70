-- What may come where the checks of a step find something.
use Rattle.std.specs.Prelude.{◌≡◌, ◌≢◌, ℕ, ◌<◌, true, false, List, Some, None}
use Rattle.marks.specs.declared.fault.FaultKind.{FaultKind}
use Rattle.marks.specs.Places.{thread_count, is_constant, is_system}
use Rattle.marks.specs.Ranges.{within}
use Rattle.marks.specs.Marks.{Act, Mark}
use Rattle.marks.specs.Bytes.{Dead}
use Rattle.marks.specs.Wants.{Want, Outside, Turns, Loads, Stores, Enters, Leaves, Allocs, Frees, Calls, Below, Gives, Returns, CallsBack, UpReturns, Steps, Fails, is_above}
use Rattle.replay_runs.specs.Runs.{Start, Allowed, marks_of, byte}
use Rattle.replay_runs.specs.Known.{NoRace}
use Rattle.replay_runs.specs.Interface.{Program}
use Rattle.replay_runs.specs.Threads.{act_fault, fault_of, is_stop, is_stopped}
use Rattle.replay_runs.specs.Rules.{replay_rules}
use Rattle.replay_runs.specs.Checks.{Finding, FaultFound, Finds, checks}

-- the mark is the fault that is found
abbrev pub IsFaultFound : Finding → Act → Type 0
IsFaultFound f a = (kind : FaultKind) × (f ≡ FaultFound kind) × (act_fault a None ≡ Some kind)

-- where the checks find something, no mark of the thread may come but a Stop, or the Fault that is found
abbrev pub WhatIsFoundStops : Program → Start → Type 0
WhatIsFoundStops program s =
    (past : List Mark) (m : Mark) (f : Finding) → Allowed (replay_rules program s) s past m →
    NoRace past m → is_stop m.act ≡ false
    → Finds (checks program.interface s past m.thread (program.want m.thread (marks_of s m.thread past)))
    f → IsFaultFound f m.act

-- the frame that the code ends and the block that it frees are there, and a frame has no constant. A block
-- of system
-- memory isn't freed at all
abbrev pub EndsWhatIsThere : Start → List Mark → Want → Type 0
EndsWhatIsThere s past Outside = Unit {0}
EndsWhatIsThere s past Turns = Unit {0}
EndsWhatIsThere s past (Loads origin at width) = Unit {0}
EndsWhatIsThere s past (Stores origin at bytes) = Unit {0}
EndsWhatIsThere s past (Enters indirect func args bytes) = Unit {0}
EndsWhatIsThere s past (Leaves at size) = (x : ℕ) → within at size x ≡ true →
    ((byte s x past).cell ≢ Dead) × (is_constant x ≡ false)
EndsWhatIsThere s past (Allocs size) = Unit {0}
EndsWhatIsThere s past (Frees at) = is_system at ≡ false → (x : ℕ) →
    within at (byte s at past).block x ≡ true → (byte s x past).cell ≢ Dead
EndsWhatIsThere s past (Calls indirect func args) = Unit {0}
EndsWhatIsThere s past (Below func args) = Unit {0}
EndsWhatIsThere s past (Gives func args) = Unit {0}
EndsWhatIsThere s past (Returns func args result) = Unit {0}
EndsWhatIsThere s past (CallsBack func args bytes) = Unit {0}
EndsWhatIsThere s past (UpReturns func result) = Unit {0}
EndsWhatIsThere s past (Steps indirect func args) = Unit {0}
EndsWhatIsThere s past (Fails kind) = Unit {0}

-- a Fault of the kind may come in the thread, and races with nothing
pub record FaultMayCome (program : Program) (s : Start) (past : List Mark) (t : ℕ) (kind : FaultKind) :
    Type 0 where
  pub mark : Mark
  pub thread : mark.thread ≡ t
  pub fault : act_fault mark.act None ≡ Some kind
  pub allowed : Allowed (replay_rules program s) s past mark
  pub no_race : NoRace past mark

-- where the checks find a fault in a thread that goes on, it may come
abbrev pub FoundFaultsAreMarks : Program → Start → Type 0
FoundFaultsAreMarks program s =
    (past : List Mark) (t : ℕ) (kind : FaultKind) → t < thread_count →
    is_stopped (marks_of s t past) ≡ false → fault_of (marks_of s t past) ≡ None →
    EndsWhatIsThere s past (program.want t (marks_of s t past))
    → Finds (checks program.interface s past t (program.want t (marks_of s t past))) (FaultFound kind) →
    FaultMayCome program s past t kind

-- its Stop may come in the thread, and races with nothing
pub record StopMayCome (program : Program) (s : Start) (past : List Mark) (t : ℕ) : Type 0 where
  pub mark : Mark
  pub thread : mark.thread ≡ t
  pub stops : is_stop mark.act ≡ true
  pub allowed : Allowed (replay_rules program s) s past mark
  pub no_race : NoRace past mark

-- a thread that stands above the cut may stop
abbrev pub StopsMayCome : Program → Start → Type 0
StopsMayCome program s = (past : List Mark) (t : ℕ) → t < thread_count →
    is_above (program.want t (marks_of s t past)) ≡ true → is_stopped (marks_of s t past) ≡ false →
    StopMayCome program s past t
