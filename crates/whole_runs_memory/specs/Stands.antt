-- Which whole runs a state of memory stands for: on both sides of the cut it is what the marks leave.
use Rattle.std.specs.Prelude.{◌≡◌, ℕ, ◌<◌, true, false, List, ◌∷◌, Option, None}
use Rattle.marks.specs.declared.side.Side.TheVariants.{System}
use Rattle.marks.specs.Places.{thread_count, stack, system_pool, pool_size, is_constant}
use Rattle.marks.specs.declared.range.Range.{Range}
use Rattle.marks.specs.Ranges.{Piece}
use Rattle.marks.specs.Marks.{Mark}
use Rattle.marks.specs.Wants.{Want}
use Rattle.pool_list.specs.Blocks.{PoolState}
use Rattle.space_memory_bytes.specs.Areas.{byte_at, IsDead}
use Rattle.space_memory.specs.StackFrames.{StackState, stack_of}
use Rattle.space_memory.specs.Cells.{is_held}
use Rattle.space_memory.specs.Spaces.{SpaceState}
use Rattle.space_memory_laws.specs.Shown.{innermost_last, by_address}
use Rattle.space_memory_laws.specs.StandsFor.{StandsFor}
use Rattle.whole_runs.specs.World.{World, begin}
use Rattle.whole_runs.specs.Sides.{seen, frames_on}
use Rattle.whole_runs.specs.Memory.{real, filled}
use Rattle.whole_runs.specs.Below.{system_blocks}
use Rattle.whole_runs.specs.Steps.{Agrees}

-- the stack of a thread below the cut with these frames, the innermost first
abbrev pub stack_below : ℕ → List Range → StackState
stack_below t fs = record { base = stack System t; frames = innermost_last fs }

-- the pool below the cut with these live blocks
abbrev pub pool_below : List Range → PoolState
pool_below bs = record { base = system_pool; size = pool_size; blocks = by_address bs }

-- no constant is pending, so that what is handed down to be written can be written
abbrev pub HoldsNoConstant : SpaceState → Type 0
HoldsNoConstant memory = (x : ℕ) → is_constant x ≡ true → is_held memory.held.regions x ≡ false

-- memory after a past, in which each byte of both sides is as given
pub record Stands (w : World) (past : List Mark) (now : ℕ → Option ℕ) (memory : SpaceState) : Type 0 where
  -- above the cut it is that of what a replay sees: frames, blocks, open Calls, keys in use, and each byte,
  -- of a pending one the value that it had when it was held
  pub above : StandsFor (begin w) (seen past) memory
  -- each byte as it is now, pending or not; none where no object lives
  pub bytes : (x : ℕ) → byte_at memory.bytes x ≡ now x
  -- each thread's stack below the cut: the frames that are open there
  pub stacks : (t : ℕ) → t < thread_count → stack_of memory.sides.system.stacks t ≡
      stack_below t (frames_on w System t past)
  -- the pool below the cut: the live blocks
  pub pool : memory.sides.system.pool ≡ pool_below (system_blocks past)
  pub constants : HoldsNoConstant memory

-- memory is what a past leaves
abbrev pub StandsForWhole : World → List Mark → SpaceState → Type 0
StandsForWhole w past memory = Stands w past (real w past) memory

-- memory in the midst of a step, in which these pieces were written so far. What was dead before it is so
pub record InStep (w : World) (past : List Mark) (pieces : List Piece) (memory : SpaceState) : Type 0 where
  pub stands : Stands w past (λ x. filled pieces x (real w past x)) memory
  pub dead : (x : ℕ) → real w past x ≡ None → IsDead memory.bytes x

-- the mark of a step that agrees with the memory before it; and the memory after it
pub record IsWholeMark (w : World) (past : List Mark) (want : Want) (m : Mark) (new : SpaceState) :
    Type 0 where
  pub agrees : Agrees w past m.thread m.side want m.act
  pub stands : StandsForWhole w (m ∷ past) new
