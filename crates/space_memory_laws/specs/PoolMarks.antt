-- Blocks: the events that `alloc_in` and `free_in` are.
use Rattle.std.specs.Prelude.{◌≡◌, ℕ, true, List}
use Rattle.run_events.specs.declared.key.Class.TheVariants.{Pool}
use Rattle.marks.specs.declared.side.Side.TheVariants.{Replay}
use Rattle.marks.specs.Places.{replay_pool}
use Rattle.marks.specs.Marks.{Alloc, Free, Event, Made, Mark}
use Rattle.space_memory_access.specs.declared.refusal.Refusal.{Refusal}
use Rattle.replay_runs.specs.Runs.{Start, OfKey, has}
use Rattle.replay_runs.specs.Keys.{key}
use Rattle.replay_runs.specs.Pool.{blocks, IsPlace}
use Rattle.space_memory.specs.Spaces.{SpaceState, side_of}
use Rattle.space_memory.specs.Blocks.{IsFreeRefused}
use Rattle.space_memory_laws.specs.StandsFor.{StandsFor}
use Rattle.space_memory_laws.specs.Marks.{IsMark}
use Rattle.space_memory_laws.specs.Changes.{IsTaken, GivesNone, IsGivenBack}

-- an Alloc that the rules of the pool allow
pub record IsAlloc (s : Start) (past : List Mark) (m : Mark) (size addr : ℕ) (new : SpaceState) :
    Type 0 where
  pub mark : IsMark s past m new
  pub place : IsPlace replay_pool (blocks s past) size addr

-- a block that is given is an Alloc at its address
abbrev pub AllocsAreMarks : Type 0
AllocsAreMarks =
    (s : Start) (past : List Mark) (old new : SpaceState) (m : Mark) (e : Event) (size addr : ℕ) →
    StandsFor s past old →
    IsTaken Replay old new size addr →
    m.act ≡ Made e →
    e.kind ≡ Alloc addr size →
    has m (OfKey (key Pool 0)) ≡ true →
    IsAlloc s past m size addr new

-- a block that isn't given is an Alloc at 0
abbrev pub RefusedAllocsAreMarks : Type 0
RefusedAllocsAreMarks =
    (s : Start) (past : List Mark) (memory : SpaceState) (m : Mark) (e : Event) (size : ℕ) →
    StandsFor s past memory →
    GivesNone Replay memory size →
    m.act ≡ Made e →
    e.kind ≡ Alloc 0 size →
    IsAlloc s past m size 0 memory

-- a block that is freed is a Free of its address and length
abbrev pub FreesAreMarks : Type 0
FreesAreMarks =
    (s : Start) (past : List Mark) (old new : SpaceState) (m : Mark) (e : Event) (addr size : ℕ) →
    StandsFor s past old →
    IsGivenBack Replay old new addr size →
    ((r : Refusal) → ¬ IsFreeRefused Replay (side_of old.sides Replay).pool.blocks old.held.regions addr
    r) →
    m.act ≡ Made e →
    e.kind ≡ Free addr size →
    has m (OfKey (key Pool 0)) ≡ true →
    IsMark s past m new

-- a free of the address 0 is a Free that touches nothing
abbrev pub FreesOfNullAreMarks : Type 0
FreesOfNullAreMarks =
    (s : Start) (past : List Mark) (memory : SpaceState) (m : Mark) (e : Event) → StandsFor s past memory →
    m.act ≡ Made e → e.kind ≡ Free 0 0 → IsMark s past m memory
