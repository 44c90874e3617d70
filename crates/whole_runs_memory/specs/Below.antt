-- What code below the cut does to memory: each call that memory takes is a mark there.
use Rattle.std.specs.Prelude.{◌≡◌, ℕ, ◌^◌, ◌<◌, List, [], ◌∷◌, length, Option, Some}
use Rattle.marks.specs.declared.side.Side.TheVariants.{System}
use Rattle.marks.specs.Places.{thread_count}
use Rattle.marks.specs.declared.range.Range.{Range}
use Rattle.marks.specs.Ranges.{bytes_of_number}
use Rattle.marks.specs.Marks.{Store, Enter, Leave, Step, Mark}
use Rattle.marks.specs.Bytes.{granted}
use Rattle.marks.specs.Wants.{Want}
use Rattle.c_builtins.specs.declared.builtin.Builtin.TheVariants.{Malloc, Free}
use Rattle.c_code.specs.Machine.{first}
use Rattle.space_memory_bytes.specs.Areas.{extents}
use Rattle.space_memory_bytes.specs.Numbers.{FillsWith}
use Rattle.space_memory.specs.Spaces.{SpaceState}
use Rattle.space_memory_laws.specs.FrameMarks.{bytes_with_args}
use Rattle.whole_runs.specs.World.{World}
use Rattle.whole_runs.specs.Sides.{place_on, HasRoomOn}
use Rattle.whole_runs.specs.Outcomes.{builtin_of}
use Rattle.whole_runs.specs.Below.{block_at}
use Rattle.whole_runs.specs.Steps.{zeros}
use Rattle.whole_runs_memory.specs.Stands.{StandsForWhole, IsWholeMark}
use Rattle.space_memory_laws.specs.Changes.{IsStored, HasFrame, SetsArguments, IsLeft, IsTaken, GivesNone, IsGivenBack}

-- a store to system memory, or to a region that is handed down to be written, is a Store
abbrev pub StoresBelowAreWhole : World → Type 0
StoresBelowAreWhole w =
    (past : List Mark) (old new : SpaceState) (m : Mark) (origin : Option ℕ)
    (thread addr width value : ℕ) →
    StandsForWhole w past old →
    m.side ≡ System →
    addr < 2 ^ 64 →
    IsStored System old new thread addr width value →
    m.act ≡ Store origin addr (bytes_of_number width value) →
    StandsForWhole w (m ∷ past) new

-- a frame that lies where the run has it, and fits
pub record IsEnterBelow (w : World) (past : List Mark) (m : Mark) (addr size : ℕ) (new : SpaceState) :
    Type 0 where
  pub place : addr ≡ place_on w System m.thread past
  pub room : HasRoomOn w System m.thread past size
  pub stands : StandsForWhole w (m ∷ past) new

-- a frame that is entered, and in which arguments are set, is an Enter with those bytes
abbrev pub EntersBelowAreWhole : World → Type 0
EntersBelowAreWhole w =
    (past : List Mark) (old entered new : SpaceState) (m : Mark) (func : ℕ) (args : List ℕ)
    (offsets widths values : List ℕ) (addr size : ℕ) →
    StandsForWhole w past old →
    m.side ≡ System →
    m.thread < thread_count →
    HasFrame System old entered m.thread addr size →
    FillsWith (record { addr = addr; len = size }) (Some 0) old.bytes entered.bytes →
    length values ≡ length offsets →
    extents new.bytes ≡ extents entered.bytes →
    SetsArguments entered new addr size offsets widths values →
    m.act ≡ Enter func args addr (bytes_with_args size offsets widths values) →
    IsEnterBelow w past m addr size new

-- a frame that is left is a Leave of its range
abbrev pub LeavesBelowAreWhole : World → Type 0
LeavesBelowAreWhole w =
    (past : List Mark) (old new : SpaceState) (m : Mark) (frame : Range) →
    StandsForWhole w past old →
    m.side ≡ System →
    m.thread < thread_count →
    IsLeft System old new m.thread frame →
    m.act ≡ Leave frame.addr frame.len →
    StandsForWhole w (m ∷ past) new

-- a block that the pool gives is one step of `r2_malloc`
abbrev pub AllocsBelowAreWhole : World → Type 0
AllocsBelowAreWhole w =
    (past : List Mark) (old new : SpaceState) (m : Mark) (want : Want) (func : ℕ) (args : List ℕ) (addr : ℕ) →
    StandsForWhole w past old →
    m.side ≡ System →
    builtin_of func ≡ Some Malloc →
    IsTaken System old new (first args) addr →
    m.act ≡ Step func args addr [] (zeros addr (granted addr (first args))) [] →
    IsWholeMark w past want m new

-- where it gives none, the step gives 0
abbrev pub RefusedAllocsBelowAreWhole : World → Type 0
RefusedAllocsBelowAreWhole w =
    (past : List Mark) (memory : SpaceState) (m : Mark) (want : Want) (func : ℕ) (args : List ℕ) →
    StandsForWhole w past memory →
    m.side ≡ System →
    builtin_of func ≡ Some Malloc →
    GivesNone System memory (first args) →
    m.act ≡ Step func args 0 [] (zeros 0 (granted 0 (first args))) [] →
    IsWholeMark w past want m memory

-- a block that is freed is one step of `r2_free`
abbrev pub FreesBelowAreWhole : World → Type 0
FreesBelowAreWhole w =
    (past : List Mark) (old new : SpaceState) (m : Mark) (want : Want) (func : ℕ) (args : List ℕ) (size : ℕ) →
    StandsForWhole w past old →
    m.side ≡ System →
    builtin_of func ≡ Some Free →
    IsGivenBack System old new (first args) size →
    m.act ≡ Step func args 0 [] [] (block_at (first args) past) →
    IsWholeMark w past want m new

-- of NULL it is one that frees nothing
abbrev pub FreesOfNullBelowAreWhole : World → Type 0
FreesOfNullBelowAreWhole w =
    (past : List Mark) (memory : SpaceState) (m : Mark) (want : Want) (func : ℕ) (args : List ℕ) →
    StandsForWhole w past memory →
    m.side ≡ System →
    builtin_of func ≡ Some Free →
    first args ≡ 0 →
    m.act ≡ Step func args 0 [] [] (block_at 0 past) →
    IsWholeMark w past want m memory
