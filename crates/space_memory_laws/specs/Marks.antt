-- The marks that calls of `Spaces` are. Each is said in the words of the call's own clauses.
use Rattle.std.specs.Prelude.{◌≡◌, ℕ, ◌^◌, ◌<◌, List, ◌∷◌, Option}
use Rattle.marks.specs.declared.side.Side.TheVariants.{Replay}
use Rattle.marks.specs.Ranges.{bytes_of_number}
use Rattle.marks.specs.Marks.{Act, Turn, Load, Store, Mark, EventKind, Up, UpRet, Stop, Fault, Made, Step}
use Rattle.marks.specs.Bytes.{Asks}
use Rattle.replay_runs.specs.Runs.{Start, byte}
use Rattle.space_memory.specs.Spaces.{SpaceState}
use Rattle.space_memory_laws.specs.StandsFor.{StandsFor}
use Rattle.space_memory_laws.specs.Changes.{IsLoaded, IsStored}

-- memory shows what the mark asks of it, and the new memory stands for the past with the mark
pub record IsMark (s : Start) (past : List Mark) (m : Mark) (new : SpaceState) : Type 0 where
  pub asks : Asks m.act (λ x. byte s x past)
  pub stands : StandsFor s (m ∷ past) new

-- the events that change nothing in memory, whatever they carry
abbrev pub IsQuietEvent : EventKind → Type 0
IsQuietEvent (Up func args) = Unit {0}
IsQuietEvent (UpRet func result) = Unit {0}
IsQuietEvent (Stop fault) = Unit {0}
IsQuietEvent _ = ⊥

-- the marks that change nothing in memory
abbrev pub IsQuiet : Act → Type 0
IsQuiet Turn = Unit {0}
IsQuiet (Load origin at bytes) = Unit {0}
IsQuiet (Step func args result ins pieces freed) = Unit {0}
IsQuiet (Fault kind crosses ins outs access) = Unit {0}
IsQuiet (Made e) = IsQuietEvent e.kind
IsQuiet _ = ⊥

-- memory stands for the past with such a mark too
abbrev pub QuietMarksLeaveMemory : Type 0
QuietMarksLeaveMemory = (s : Start) (past : List Mark) (memory : SpaceState) (m : Mark) →
    StandsFor s past memory → IsQuiet m.act → StandsFor s (m ∷ past) memory

-- a load that is answered is a Load of the bytes of the number
abbrev pub LoadsAreMarks : Type 0
LoadsAreMarks =
    (s : Start) (past : List Mark) (memory : SpaceState) (m : Mark) (origin : Option ℕ)
    (thread addr width value : ℕ) →
    StandsFor s past memory →
    addr < 2 ^ 64 →
    IsLoaded Replay memory thread addr width value →
    m.act ≡ Load origin addr (bytes_of_number width value) →
    IsMark s past m memory

-- a store that is done is a Store of the bytes of the number
abbrev pub StoresAreMarks : Type 0
StoresAreMarks =
    (s : Start) (past : List Mark) (old new : SpaceState) (m : Mark) (origin : Option ℕ)
    (thread addr width value : ℕ) →
    StandsFor s past old →
    addr < 2 ^ 64 →
    IsStored Replay old new thread addr width value →
    m.act ≡ Store origin addr (bytes_of_number width value) →
    IsMark s past m new
