-- Code below the cut: what it does to memory leaves the memory above the cut as a run has it. A run doesn't
-- see what such
-- code writes to bytes that are pending, before the Ret that gives them.
use Rattle.std.specs.Prelude.{◌≡◌, ℕ, ◌^◌, ◌<◌, List, Some}
use Rattle.marks.specs.declared.side.Side.TheVariants.{System}
use Rattle.marks.specs.Places.{thread_count}
use Rattle.marks.specs.Marks.{Mark}
use Rattle.marks.specs.declared.range.Range.{Range}
use Rattle.space_memory_bytes.specs.Numbers.{FillsWith}
use Rattle.replay_runs.specs.Runs.{Start}
use Rattle.space_memory.specs.Sides.{top_of}
use Rattle.space_memory.specs.Spaces.{SpaceState, side_of}
use Rattle.space_memory_laws.specs.StandsFor.{StandsFor}
use Rattle.space_memory_laws.specs.Changes.{IsStored, IsWritten, HasFrame, SetsArguments, IsLeft, IsTaken, IsGivenBack}

-- a store of code below the cut, to system memory or to a region that is handed down to be written
abbrev pub StoresBelowAreUnseen : Type 0
StoresBelowAreUnseen =
    (s : Start) (past : List Mark) (old new : SpaceState) (thread addr width value : ℕ) →
    StandsFor s past old →
    addr < 2 ^ 64 →
    IsStored System old new thread addr width value →
    StandsFor s past new

-- bytes that code below the cut writes, there likewise
abbrev pub WritesBelowAreUnseen : Type 0
WritesBelowAreUnseen =
    (s : Start) (past : List Mark) (old new : SpaceState) (thread addr : ℕ) (bytes : List ℕ) →
    StandsFor s past old →
    addr < 2 ^ 64 →
    IsWritten System old new thread addr bytes →
    StandsFor s past new

-- a frame that is entered below the cut
abbrev pub FramesBelowAreUnseen : Type 0
FramesBelowAreUnseen =
    (s : Start) (past : List Mark) (old new : SpaceState) (thread addr size : ℕ) →
    StandsFor s past old →
    thread < thread_count →
    HasFrame System old new thread addr size →
    FillsWith (record { addr = addr; len = size }) (Some 0) old.bytes new.bytes →
    StandsFor s past new

-- the arguments of such a frame
abbrev pub ArgumentsBelowAreUnseen : Type 0
ArgumentsBelowAreUnseen =
    (s : Start) (past : List Mark) (old new : SpaceState) (thread : ℕ) (frame : Range)
    (offsets widths args : List ℕ) →
    StandsFor s past old →
    thread < thread_count →
    top_of (side_of old.sides System) thread ≡ Some frame →
    SetsArguments old new frame.addr frame.len offsets widths args →
    StandsFor s past new

-- the end of such a frame
abbrev pub LeavesBelowAreUnseen : Type 0
LeavesBelowAreUnseen =
    (s : Start) (past : List Mark) (old new : SpaceState) (thread : ℕ) (frame : Range) →
    StandsFor s past old →
    thread < thread_count →
    IsLeft System old new thread frame →
    StandsFor s past new

-- a block of the pool below the cut
abbrev pub AllocsBelowAreUnseen : Type 0
AllocsBelowAreUnseen =
    (s : Start) (past : List Mark) (old new : SpaceState) (addr size : ℕ) →
    StandsFor s past old →
    IsTaken System old new size addr →
    StandsFor s past new

-- the end of such a block
abbrev pub FreesBelowAreUnseen : Type 0
FreesBelowAreUnseen =
    (s : Start) (past : List Mark) (old new : SpaceState) (addr size : ℕ) →
    StandsFor s past old →
    IsGivenBack System old new addr size →
    StandsFor s past new
