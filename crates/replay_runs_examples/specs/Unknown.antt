-- Frames that race: where a thread has faulted there before, and where code leaves a frame that isn't the
-- innermost one.
use Rattle.std.specs.Prelude.{ℕ, zero, suc, List, [], ◌∷◌, false, None}
use Rattle.marks.specs.declared.fault.FaultKind.TheVariants.{NotLive}
use Rattle.marks.specs.Ranges.{range}
use Rattle.marks.specs.Marks.{Free, Enter, Fault, Leave, Reading, Store}
use Rattle.marks.specs.Wants.{Want, Enters, Frees, Leaves, Loads, Stores}
use Rattle.replay_runs.specs.Interface.{Program}
use Rattle.replay_runs_examples.specs.Programs.{Code, always, program, whole, Doing, Steps, Makes, zeros, main}

abbrev pub entering : Want
entering = Enters false main [] (zeros 16)

-- thread 1 reads where thread 0 has its first frame then
abbrev pub faulting_code : ℕ → Code
faulting_code zero = always entering ∷ []
faulting_code (suc t) = always (Loads None 0x20000000 1) ∷ []

abbrev pub faulting : Program
faulting = program whole faulting_code

abbrev pub faulted : List Doing
faulted = Steps 1 (Fault NotLive false [] [] (Reading (range 0x20000000 1))) ∷ []

-- thread 0 leaves no byte of its frame, and enters one at the same place, where thread 1 has written
abbrev pub sharing_code : ℕ → Code
sharing_code zero = always entering ∷ always (Frees 0) ∷ always (Leaves 0x20000000 0) ∷ always entering ∷ []
sharing_code (suc t) = always (Frees 0) ∷ always (Stores None 0x20000000 (1 ∷ [])) ∷ []

abbrev pub sharing : Program
sharing = program whole sharing_code

abbrev pub shared : List Doing
shared =
    Steps 0 (Enter main [] 0x20000000 (zeros 16))
    ∷ Makes 0 (Free 0 0)
    ∷ Makes 1 (Free 0 0)
    ∷ Steps 1 (Store None 0x20000000 (1 ∷ []))
    ∷ Steps 0 (Leave 0x20000000 0)
    ∷ []
