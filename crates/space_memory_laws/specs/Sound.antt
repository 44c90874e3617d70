-- What memory keeps through a run: where frames and blocks lie, and that in stacks and pool just their
-- bytes live.
use Rattle.std.specs.Prelude.{◌≡◌, ℕ, suc, ◌+◌, ◌^◌, ◌<◌, ◌≤◌, true, false, List, [], ◌∷◌, length, None, is_some}
use Rattle.marks.specs.declared.side.Side.TheVariants.{Replay, System}
use Rattle.marks.specs.Places.{thread_count, stack, stack_size, replay_pool, system_pool, pool_size, is_constant, is_replay, is_system}
use Rattle.marks.specs.declared.range.Range.{Range}
use Rattle.marks.specs.Ranges.{range, covers, any_range}
use Rattle.marks.specs.Marks.{Mark}
use Rattle.space_memory_bytes.specs.Areas.{AreaState, IsDead, byte_at}
use Rattle.space_memory.specs.StackFrames.{stack_of, LieInStack}
use Rattle.pool_list.specs.Blocks.{LieBetween, IsLaidOut}
use Rattle.replay_runs.specs.Runs.{Start, marks_of}
use Rattle.replay_runs.specs.Threads.{frames, end_of}
use Rattle.replay_runs.specs.Pool.{blocks}
use Rattle.space_memory.specs.Sides.{SideState}
use Rattle.space_memory.specs.Spaces.{SpaceState}
use Rattle.space_memory_laws.specs.Shown.{value_when_held, by_address}
use Rattle.space_memory_laws.specs.Held.{AreHeld}

-- each frame, the innermost first, begins where the one below it ends, and ends in the stack
abbrev pub AreStacked : ℕ → List Range → Type 0
AreStacked base [] = Unit {0}
AreStacked base (f ∷ fs) = (f.addr ≡ end_of base fs) × (f.addr + f.len ≤ base + stack_size) ×
    AreStacked base fs

-- of an area just the bytes of these ranges live
abbrev pub JustTheseLive : Range → List Range → List AreaState → Type 0
JustTheseLive area rs bytes = (x : ℕ) → covers area x ≡ true → is_some (byte_at bytes x) ≡ any_range rs x

-- the stacks and the pool below the cut, and all that is in them, lie in system memory
pub record IsBelow (side : SideState) : Type 0 where
  pub threads : length side.stacks ≡ thread_count
  pub bases : (t : ℕ) → t < thread_count → (stack_of side.stacks t).base ≡ stack System t
  pub frames : (t : ℕ) → t < thread_count → LieInStack (stack_of side.stacks t)
  pub pool_from : side.pool.base ≡ system_pool
  pub pool_bytes : side.pool.size ≡ pool_size
  pub blocks : IsLaidOut side.pool

-- what holds of memory after a run
pub record IsSound (s : Start) (past : List Mark) (memory : SpaceState) : Type 0 where
  -- no object has the last address, or one past it
  pub ends : (x : ℕ) → 2 ^ 64 ≤ suc x → IsDead memory.bytes x
  -- nothing is held of what isn't there
  pub unheld : (x : ℕ) → IsDead memory.bytes x → value_when_held memory.held.regions x ≡ None
  -- nothing is held of system memory, and no object lies out of all memories
  pub own : (x : ℕ) → is_system x ≡ true → value_when_held memory.held.regions x ≡ None
  pub inside : (x : ℕ) → is_constant x ≡ false → is_replay x ≡ false → is_system x ≡ false →
      IsDead memory.bytes x
  pub below : IsBelow memory.sides.system
  pub held : AreHeld memory.held
  pub stacked : (t : ℕ) → t < thread_count → AreStacked (stack Replay t) (frames (marks_of s t past))
  pub frames_live : (t : ℕ) → t < thread_count →
      JustTheseLive (range (stack Replay t) stack_size) (frames (marks_of s t past)) memory.bytes
  pub laid_out : LieBetween replay_pool (replay_pool + pool_size) (by_address (blocks s past))
  pub blocks_live : JustTheseLive (range replay_pool pool_size) (blocks s past) memory.bytes
