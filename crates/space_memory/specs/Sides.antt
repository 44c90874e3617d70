-- One side of memory: the stacks of its threads, and its pool.
use Rattle.std.specs.Prelude.{ℕ, ◌+◌, ◌*◌, ◌-◌, ◌≤◌, List, [], map, length, slice_get, Option}
use Rattle.std.specs.List.{range_with_len}
use Rattle.marks.specs.declared.range.Range.{Range}
use Rattle.memory_map.specs.declared.areas.TheConstants.{THREADS, STACK_SIZE, POOL_SIZE}
use Rattle.space_memory.specs.StackFrames.{StackState, stack_of, with_frames}
use Rattle.pool_list.specs.declared.block.Block.{Block}
use Rattle.pool_list.specs.Blocks.{PoolState}

-- the stacks by thread, and the pool
pub record SideState : Type 0 where
  pub stacks : List StackState
  pub pool : PoolState

-- the frames of a thread, the innermost last
abbrev pub frames_of : SideState → ℕ → List Range
frames_of side thread = (stack_of side.stacks thread).frames

-- the innermost frame of a thread, if it has one
abbrev pub top_of : SideState → ℕ → Option Range
top_of side thread = slice_get (frames_of side thread) (length (frames_of side thread) - 1)

-- the side with other frames for one thread
abbrev pub with_thread : SideState → ℕ → List Range → SideState
with_thread side thread frames = record { stacks = with_frames side.stacks thread frames; pool = side.pool }

-- the side with other live blocks
abbrev pub with_blocks : SideState → List Block → SideState
with_blocks side blocks = record {
  stacks = side.stacks;
  pool =
      record { base = side.pool.base; size = side.pool.size; blocks = blocks };
}

-- the stack of a thread before its first frame, where that of thread 0 begins at an address
abbrev pub fresh_stack : ℕ → ℕ → StackState
fresh_stack from thread = record { base = from + thread * STACK_SIZE; frames = [] }

-- a side with no frames and no blocks
abbrev pub fresh_side : ℕ → ℕ → SideState
fresh_side stacks pool = record {
  stacks = map (fresh_stack stacks) (range_with_len 0 THREADS);
  pool =
      record { base = pool; size = POOL_SIZE; blocks = [] };
}

-- the addresses of a stack
abbrev pub stack_range : StackState → Range
stack_range stack = record { addr = stack.base; len = STACK_SIZE }

-- the addresses of a pool
abbrev pub pool_range : PoolState → Range
pool_range pool = record { addr = pool.base; len = pool.size }

-- a range lies whole in another
pub record IsWithin (outer inner : Range) : Type 0 where
  pub from : outer.addr ≤ inner.addr
  pub to : inner.addr + inner.len ≤ outer.addr + outer.len
