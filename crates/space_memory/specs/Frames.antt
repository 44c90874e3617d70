-- Entering and leaving frames, and setting the arguments of a frame.
use Rattle.std.specs.Prelude.{◌≡◌, ℕ, ◌+◌, ◌-◌, List, ◌∷◌, Option, Some, if◌then◌else◌}
use Rattle.marks.specs.declared.side.Side.{Side}
use Rattle.marks.specs.declared.range.Range.{Range}
use Rattle.marks.specs.Ranges.{covers, IsLeastIn}
use Rattle.space_memory_bytes.specs.Numbers.{digit}
use Rattle.space_memory.specs.StackFrames.{StackState, end_of, IsFullFor}
use Rattle.space_memory_access.specs.declared.holder.Region.{Region}
use Rattle.space_memory_access.specs.declared.refusal.Refusal.{Refusal}
use Rattle.space_memory_access.specs.declared.refusal.Refusal.TheVariants.{NotLive, Pending, OtherSpace, ReadOnly, StackFull, KeyInUse, NoKey, Size}
use Rattle.space_memory_access.specs.Accesses.{IsPendingTo}

-- a frame of the size doesn't fit on the stack: the place where it would lie is shown
abbrev pub IsEnterRefused : StackState → ℕ → Refusal → Type 0
IsEnterRefused stack size (NotLive x) = ⊥
IsEnterRefused stack size (Pending x) = ⊥
IsEnterRefused stack size (OtherSpace x) = ⊥
IsEnterRefused stack size (ReadOnly x) = ⊥
IsEnterRefused stack size (StackFull x) = IsFullFor stack size × (x ≡ end_of stack.base stack.frames)
IsEnterRefused stack size (KeyInUse x) = ⊥
IsEnterRefused stack size (NoKey x) = ⊥
IsEnterRefused stack size (Size x) = ⊥

-- a byte of the frame is pending, which only replay code minds: the least is shown
abbrev pub IsLeaveRefused : Side → List Region → Option Range → Refusal → Type 0
IsLeaveRefused side regions (Some frame) (Pending x) = IsLeastIn frame (IsPendingTo side regions) x
IsLeaveRefused side regions _ _ = ⊥

-- the byte at an address once the arguments stand in a frame, each at its offset and in its width, low byte
-- first
abbrev pub with_args : ℕ → List ℕ → List ℕ → List ℕ → ℕ → Option ℕ → Option ℕ
with_args frame (offset ∷ offsets) (width ∷ widths) (arg ∷ args) x byte =
    with_args frame offsets widths args x (if covers (record { addr = frame + offset; len = width }) x then
    Some (digit arg (x - (frame + offset))) else byte)
with_args frame _ _ _ x byte = byte
