-- Frames: the marks that `enter`, `set_args` and `leave` are.
use Rattle.std.specs.Prelude.{◌≡◌, ℕ, ◌+◌, ◌<◌, ◌≤◌, List, length, map, Some, unwrap_or, slice_index}
use Rattle.std.specs.List.{range_with_len}
use Rattle.marks.specs.declared.side.Side.TheVariants.{Replay}
use Rattle.marks.specs.Places.{thread_count}
use Rattle.marks.specs.Marks.{Enter, Leave, Mark}
use Rattle.marks.specs.declared.range.Range.{Range}
use Rattle.space_memory_bytes.specs.Areas.{AreaState, byte_at, extents}
use Rattle.space_memory_bytes.specs.Numbers.{HasBytes, SameOutside, FillsWith}
use Rattle.space_memory_access.specs.declared.refusal.Refusal.{Refusal}
use Rattle.replay_runs.specs.Runs.{Start, marks_of}
use Rattle.replay_runs.specs.Threads.{frame_place, HasRoom}
use Rattle.space_memory.specs.Sides.{top_of}
use Rattle.space_memory.specs.Spaces.{SpaceState, side_of}
use Rattle.space_memory.specs.Frames.{IsLeaveRefused, with_args}
use Rattle.space_memory_laws.specs.StandsFor.{StandsFor}
use Rattle.space_memory_laws.specs.Marks.{IsMark}
use Rattle.space_memory_laws.specs.Changes.{IsEntered, IsLeft}

-- an Enter that the rules of frames allow
pub record IsEnter (s : Start) (past : List Mark) (m : Mark) (addr size : ℕ) (new : SpaceState) :
    Type 0 where
  pub mark : IsMark s past m new
  pub place : addr ≡ frame_place m.thread (marks_of s m.thread past)
  pub room : HasRoom m.thread (marks_of s m.thread past) size

-- a frame that is entered and then filled with bytes is an Enter with those bytes
abbrev pub EntersAreMarks : Type 0
EntersAreMarks =
    (s : Start) (past : List Mark) (old new : SpaceState) (m : Mark) (func : ℕ) (args bytes : List ℕ)
    (addr size : ℕ) →
    StandsFor s past old →
    m.thread < thread_count →
    IsEntered Replay old new m.thread addr size bytes →
    m.act ≡ Enter func args addr bytes →
    IsEnter s past m addr size new

-- the bytes of a frame of so many, with arguments in it at their offsets and in their widths, and zeros
abbrev pub bytes_with_args : ℕ → List ℕ → List ℕ → List ℕ → List ℕ
bytes_with_args size offsets widths args = map (λ i.
    unwrap_or (with_args 0 offsets widths args i (Some 0)) 0) (range_with_len 0 size)

-- memory after arguments were set in a frame of zeros
pub record HasArgs (addr size : ℕ) (offsets widths args : List ℕ) (old new : List AreaState) : Type 0 where
  pub bytes : HasBytes new addr (bytes_with_args size offsets widths args)
  pub outside : SameOutside (record { addr = addr; len = size }) old new
  pub count : length (bytes_with_args size offsets widths args) ≡ size

-- a frame that `enter` fills with zeros, and `set_args` with arguments, has those bytes, and all others are
-- as before
abbrev pub ArgumentsAreBytes : Type 0
ArgumentsAreBytes =
    (old entered new : List AreaState) (frame : Range) (offsets widths args : List ℕ) →
    FillsWith frame (Some 0) old entered →
    length widths ≡ length offsets →
    length args ≡ length offsets →
    ((i : ℕ) → i < length offsets → slice_index offsets i + slice_index widths i ≤ frame.len) →
    extents new ≡ extents entered →
    ((x : ℕ) → byte_at new x ≡ with_args frame.addr offsets widths args x (byte_at entered x)) →
    HasArgs frame.addr frame.len offsets widths args old new

-- a frame that is left is a Leave of its range
abbrev pub LeavesAreMarks : Type 0
LeavesAreMarks =
    (s : Start) (past : List Mark) (old new : SpaceState) (m : Mark) (frame : Range) →
    StandsFor s past old →
    m.thread < thread_count →
    ((r : Refusal) → ¬ IsLeaveRefused Replay old.held.regions (top_of (side_of old.sides Replay) m.thread)
    r) →
    IsLeft Replay old new m.thread frame →
    m.act ≡ Leave frame.addr frame.len →
    IsMark s past m new
