-- Marks that leave memory as it is, and what memory shows of a past, on either side of the cut.
use Rattle.std.specs.Prelude.{◌≡◌, ◌≢◌, ℕ, ◌<◌, false, List, [], ◌∷◌, Option, Some, None, length}
use Rattle.marks.specs.declared.side.Side.{Side}
use Rattle.marks.specs.declared.side.Side.TheVariants.{System}
use Rattle.marks.specs.Places.{thread_count, is_system}
use Rattle.marks.specs.declared.range.Range.{Range}
use Rattle.marks.specs.Ranges.{Piece, bytes_of_number}
use Rattle.marks.specs.Marks.{Act, Turn, Load, Store, Enter, Leave, Step, Fault, Made, Mark}
use Rattle.marks.specs.Bytes.{Cell, Dead, Live, Held}
use Rattle.marks.specs.Wants.{Want}
use Rattle.c_builtins.specs.declared.builtin.Builtin.{Builtin}
use Rattle.c_builtins.specs.declared.builtin.Builtin.TheVariants as builtins
use Rattle.space_memory_bytes.specs.Numbers.{HasNumber}
use Rattle.space_memory_access.specs.declared.holder.Region.{Region}
use Rattle.space_memory_access.specs.declared.refusal.Refusal.{Refusal}
use Rattle.space_memory.specs.StackFrames.{stack_of, end_of}
use Rattle.space_memory.specs.Frames.{IsLeaveRefused}
use Rattle.space_memory.specs.Sides.{top_of, frames_of}
use Rattle.space_memory.specs.Spaces.{SpaceState, side_of}
use Rattle.space_memory_laws.specs.StandsFor.{StandsFor}
use Rattle.space_memory_laws.specs.Marks.{IsQuietEvent}
use Rattle.space_memory_laws.specs.Calls.{IsShown}
use Rattle.replay_runs.specs.Runs.{byte}
use Rattle.whole_runs.specs.World.{World, begin}
use Rattle.whole_runs.specs.Sides.{seen, frames_on, place_on}
use Rattle.whole_runs.specs.Outcomes.{builtin_of}
use Rattle.whole_runs.specs.Memory.{real, Has}
use Rattle.whole_runs_memory.specs.Stands.{StandsForWhole, IsWholeMark}

-- the builtin has nothing to do with the pool
abbrev pub LeavesPool : Option Builtin → Type 0
LeavesPool (Some builtins.Malloc) = ⊥
LeavesPool (Some builtins.Free) = ⊥
LeavesPool (Some builtins.Spawn) = Unit {0}
LeavesPool (Some builtins.Join) = Unit {0}
LeavesPool (Some builtins.Lock) = Unit {0}
LeavesPool (Some builtins.Unlock) = Unit {0}
LeavesPool (Some builtins.Print) = Unit {0}
LeavesPool None = Unit {0}

-- the marks that change no memory of either side: of a step one of a function that has nothing to do with the
-- pool, and that writes no piece
abbrev pub IsPlain : Act → Type 0
IsPlain Turn = Unit {0}
IsPlain (Load origin at bytes) = Unit {0}
IsPlain (Store origin at bytes) = ⊥
IsPlain (Enter func args at bytes) = ⊥
IsPlain (Leave at size) = ⊥
IsPlain (Step func args result ins pieces freed) =
    LeavesPool (builtin_of func) × (pieces ≡ []) × (freed ≡ [])
IsPlain (Fault kind crosses ins outs access) = Unit {0}
IsPlain (Made e) = IsQuietEvent e.kind

-- memory stands for the past with such a mark too, of either side
abbrev pub PlainMarksLeaveMemory : World → Type 0
PlainMarksLeaveMemory w = (past : List Mark) (memory : SpaceState) (m : Mark) →
    StandsForWhole w past memory → IsPlain m.act → StandsForWhole w (m ∷ past) memory

-- and the memory above the cut stands for it by itself, as where a step was broken off after some of its
-- pieces: what comes then are a fault and Stops
abbrev pub PlainMarksLeaveMemoryAbove : World → Type 0
PlainMarksLeaveMemoryAbove w = (past : List Mark) (memory : SpaceState) (m : Mark) →
    StandsFor (begin w) (seen past) memory → IsPlain m.act → StandsFor (begin w) (seen (m ∷ past)) memory

-- a load that is answered, on either side, is a Load that agrees with the run
abbrev pub LoadsAreWhole : World → Type 0
LoadsAreWhole w =
    (past : List Mark) (memory : SpaceState) (m : Mark) (want : Want) (origin : Option ℕ)
    (addr width value : ℕ) →
    StandsForWhole w past memory →
    HasNumber memory.bytes addr width value →
    m.act ≡ Load origin addr (bytes_of_number width value) →
    IsWholeMark w past want m memory

-- a piece with the bytes of its range, as they are copied for `r2_print`, has the bytes of the run
abbrev pub CopiesAreWhole : World → Type 0
CopiesAreWhole w = (past : List Mark) (memory : SpaceState) (p : Piece) → StandsForWhole w past memory →
    IsShown memory.bytes p → Has (real w past) p.range.addr p.bytes

-- the innermost of these
abbrev pub first_of : List Range → Option Range
first_of [] = None
first_of (f ∷ fs) = Some f

-- a thread's frames in memory are those of the run, on either side: the innermost one, how many there are,
-- and where the next one lies
pub record HasFrames (w : World) (past : List Mark) (memory : SpaceState) (side : Side) (t : ℕ) : Type 0 where
  pub top : top_of (side_of memory.sides side) t ≡ first_of (frames_on w side t past)
  pub count : length (frames_of (side_of memory.sides side) t) ≡ length (frames_on w side t past)
  pub next : end_of (stack_of (side_of memory.sides side).stacks t).base
      (frames_of (side_of memory.sides side) t) ≡ place_on w side t past

abbrev pub FramesAreThere : World → Type 0
FramesAreThere w = (past : List Mark) (memory : SpaceState) (side : Side) (t : ℕ) →
    StandsForWhole w past memory → t < thread_count → HasFrames w past memory side t

-- below the cut no frame is kept from being left
abbrev pub LeavesBelowAreTaken : Type 0
LeavesBelowAreTaken = (regions : List Region) (frame : Option Range) (r : Refusal) →
    ¬ IsLeaveRefused System regions frame r

-- what a byte is above the cut says what it really is: its value where it lives, of a pending one only that
-- there is one
abbrev pub IsReally : Cell → Option ℕ → Type 0
IsReally Dead now = now ≡ None
IsReally (Live v) now = now ≡ Some v
IsReally (Held v) now = now ≢ None

-- code above the cut sees real memory
abbrev pub MemoryAboveIsReal : World → Type 0
MemoryAboveIsReal w = (past : List Mark) (memory : SpaceState) (x : ℕ) → StandsForWhole w past memory →
    is_system x ≡ false → IsReally (byte (begin w) x (seen past)).cell (real w past x)
