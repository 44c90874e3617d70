-- What one call of `Spaces` does to memory, on either side of the cut, in the words of memory itself: laws of both sides, and who keeps
-- memory of both, cite these.
use Rattle.std.specs.Prelude.{◌≡◌, ◌⊎◌, ℕ, ◌+◌, ◌-◌, ◌<◌, ◌≤◌, Bool, true, false, List, [], ◌∷◌, ◌++◌, length, Option, Some, None, slice_index, slice_set}
use Rattle.marks.specs.declared.side.Side.{Side}
use Rattle.marks.specs.declared.range.Range.{Range}
use Rattle.pool_list.specs.Blocks.{length_at, with_block, without_block}
use Rattle.pool_list.specs.Places.{IsPlace, IsLeastPlace}
use Rattle.space_memory_bytes.specs.Areas.{byte_at}
use Rattle.space_memory_bytes.specs.Numbers.{HasNumber, HasBytes, SameOutside, FillsWith}
use Rattle.space_memory_access.specs.declared.access.Access.{Access}
use Rattle.space_memory_access.specs.declared.refusal.Refusal.{Refusal}
use Rattle.space_memory_access.specs.Accesses.{IsAllowed}
use Rattle.space_memory_access.specs.Held.{innermost, without_closed}
use Rattle.space_memory.specs.StackFrames.{stack_of, end_of}
use Rattle.space_memory.specs.Sides.{frames_of, with_thread, with_blocks}
use Rattle.space_memory.specs.Spaces.{SpaceState, side_of, with_side}
use Rattle.space_memory.specs.Frames.{IsEnterRefused, with_args}
use Rattle.space_memory.specs.Releases.{AllReturned, HasKey, committed_key}

-- ---- accesses

-- code of a thread on a side reads or writes so many bytes from an address on
abbrev pub access_on : Side → (thread addr len : ℕ) → (write : Bool) → Access
access_on side thread addr len write = record {
  side = side;
  thread = thread;
  range =
      record { addr = addr; len = len };
  write = write;
}

-- the thread may read these bytes, and they have this number
pub record IsLoaded (side : Side) (memory : SpaceState) (t addr width value : ℕ) : Type 0 where
  pub number : HasNumber memory.bytes addr width value
  pub allowed : IsAllowed memory.bytes memory.held.regions (access_on side t addr width false)

-- it may write them; they have this number then, and nothing else changed
pub record IsStored (side : Side) (old new : SpaceState) (t addr width value : ℕ) : Type 0 where
  pub allowed : IsAllowed old.bytes old.held.regions (access_on side t addr width true)
  pub number : HasNumber new.bytes addr width value
  pub others : SameOutside (record { addr = addr; len = width }) old.bytes new.bytes
  pub rest : new ≡ record old { bytes = new.bytes }

-- it may write as many bytes as these; they are these then, and nothing else changed
pub record IsWritten (side : Side) (old new : SpaceState) (t addr : ℕ) (bytes : List ℕ) : Type 0 where
  pub allowed : IsAllowed old.bytes old.held.regions (access_on side t addr (length bytes) true)
  pub bytes_are : HasBytes new.bytes addr bytes
  pub others : SameOutside (record { addr = addr; len = length bytes }) old.bytes new.bytes
  pub rest : new ≡ record old { bytes = new.bytes }

-- ---- frames

-- the thread has one more frame of this size on the side, after its innermost one
pub record HasFrame (side : Side) (old new : SpaceState) (t addr size : ℕ) : Type 0 where
  pub place : addr ≡ end_of (stack_of (side_of old.sides side).stacks t).base
      (frames_of (side_of old.sides side) t)
  pub fits : (r : Refusal) → ¬ IsEnterRefused (stack_of (side_of old.sides side).stacks t) size r
  pub sides : new.sides ≡ with_side old.sides side (with_thread (side_of old.sides side) t
      (frames_of (side_of old.sides side) t ++ record { addr = addr; len = size } ∷ []))
  pub held : new.held ≡ old.held

-- these are its bytes
pub record IsEntered (side : Side) (old new : SpaceState) (t addr size : ℕ) (bytes : List ℕ) : Type 0 where
  pub frame : HasFrame side old new t addr size
  pub count : length bytes ≡ size
  pub bytes_are : HasBytes new.bytes addr bytes
  pub others : SameOutside (record { addr = addr; len = size }) old.bytes new.bytes

-- arguments were set in it, at their offsets and in their widths
pub record SetsArguments (old new : SpaceState) (addr size : ℕ) (offsets widths args : List ℕ) :
    Type 0 where
  pub widths_same : length widths ≡ length offsets
  pub fit : (i : ℕ) → i < length offsets → slice_index offsets i + slice_index widths i ≤ size
  pub set : (x : ℕ) → byte_at new.bytes x ≡ with_args addr offsets widths args x (byte_at old.bytes x)
  pub rest : new ≡ record old { bytes = new.bytes }

-- this was the thread's innermost frame, and its bytes are dead
pub record IsLeft (side : Side) (old new : SpaceState) (t : ℕ) (frame : Range) : Type 0 where
  pub frames : frames_of (side_of old.sides side) t ≡ frames_of (side_of new.sides side) t ++ frame ∷ []
  pub sides : new.sides ≡ with_side old.sides side (with_thread (side_of old.sides side) t
      (frames_of (side_of new.sides side) t))
  pub dead : FillsWith frame None old.bytes new.bytes
  pub held : new.held ≡ old.held

-- ---- blocks

-- the pool gave a block of the size, of zeros
pub record IsTaken (side : Side) (old new : SpaceState) (size addr : ℕ) : Type 0 where
  pub least : IsLeastPlace (side_of old.sides side).pool size addr
  pub some : 1 ≤ size
  pub sides : new.sides ≡ with_side old.sides side (with_blocks (side_of old.sides side)
      (with_block (side_of old.sides side).pool.blocks (record { addr = addr; len = size })))
  pub fills : FillsWith (record { addr = addr; len = size }) (Some 0) old.bytes new.bytes
  pub held : new.held ≡ old.held

-- it has no place for one
abbrev pub GivesNone : Side → SpaceState → (size : ℕ) → Type 0
GivesNone side memory size = (size ≡ 0) ⊎ ((at : ℕ) → ¬ IsPlace (side_of memory.sides side).pool size at)

-- the block at the address, of this size, is no more, and its bytes are dead
pub record IsGivenBack (side : Side) (old new : SpaceState) (addr size : ℕ) : Type 0 where
  pub block : length_at (side_of old.sides side).pool.blocks addr ≡ Some size
  pub sides : new.sides ≡ with_side old.sides side (with_blocks (side_of old.sides side)
      (without_block (side_of old.sides side).pool.blocks addr))
  pub dead : FillsWith (record { addr = addr; len = size }) None old.bytes new.bytes
  pub held : new.held ≡ old.held

-- ---- calls

-- the thread's innermost call gave back what it held
pub record IsReleased (old new : SpaceState) (t : ℕ) (used : List ℕ) (commit : Option (ℕ × ℕ)) :
    Type 0 where
  pub key : HasKey old.held.regions commit
  pub returned : AllReturned old.bytes old.held.regions (innermost old.held t) used commit
  pub regions : new.held.regions ≡ without_closed (innermost old.held t) (committed_key commit)
      old.held.regions
  pub depths : new.held.depths ≡ slice_set old.held.depths t (slice_index old.held.depths t - 1)
  pub rest : new ≡ record old { held = new.held }
