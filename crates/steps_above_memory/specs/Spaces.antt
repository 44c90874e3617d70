-- What a step leaves of memory, in the words of memory itself: so that who has both sides of the cut knows it of both.
use Rattle.std.specs.Prelude.{◌≡◌, ◌⊎◌, ℕ, ◌<◌}
use Rattle.marks.specs.declared.side.Side.TheVariants.{Replay}
use Rattle.marks.specs.declared.range.Range.{Range}
use Rattle.space_memory_access.specs.declared.refusal.Refusal.{Refusal}
use Rattle.space_memory.specs.Sides.{top_of}
use Rattle.space_memory.specs.Spaces.{SpaceState}
use Rattle.space_memory.specs.Frames.{IsLeaveRefused}
use Rattle.space_memory.specs.Blocks.{IsFreeRefused}
use Rattle.space_memory_laws.specs.Changes.{IsLeft, IsTaken, GivesNone, IsGivenBack}

-- the thread left its innermost frame, of which nothing is pending
pub record LeavesFrame (old new : SpaceState) (t : ℕ) (frame : Range) : Type 0 where
  pub free : (r : Refusal) → ¬ IsLeaveRefused Replay old.held.regions (top_of old.sides.replay t) r
  pub left : IsLeft Replay old new t frame

-- the pool gave no block, and the address is 0
pub record IsRefused (old new : SpaceState) (size addr : ℕ) : Type 0 where
  pub none : GivesNone Replay old size
  pub addr_is : addr ≡ 0
  pub same : new ≡ old

abbrev pub IsGiven : SpaceState → SpaceState → (size addr : ℕ) → Type 0
IsGiven old new size addr = IsTaken Replay old new size addr ⊎ IsRefused old new size addr

-- the block at the address, of which nothing is pending, was freed
pub record FreesBlock (old new : SpaceState) (addr size : ℕ) : Type 0 where
  pub some : 0 < addr
  pub free : (r : Refusal) → ¬ IsFreeRefused Replay old.sides.replay.pool.blocks old.held.regions addr r
  pub back : IsGivenBack Replay old new addr size

-- of NULL nothing was
pub record IsNull (old new : SpaceState) (addr size : ℕ) : Type 0 where
  pub addr_is : addr ≡ 0
  pub size_is : size ≡ 0
  pub same : new ≡ old

abbrev pub IsFreed : SpaceState → SpaceState → (addr size : ℕ) → Type 0
IsFreed old new addr size = FreesBlock old new addr size ⊎ IsNull old new addr size
