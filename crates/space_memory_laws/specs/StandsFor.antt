-- Which runs a state of memory stands for.
use Rattle.std.specs.Prelude.{◌≡◌, ℕ, ◌<◌, false, List, length, map, option_map, unwrap_or, slice_index}
use Rattle.marks.specs.Places.{thread_count, is_system}
use Rattle.marks.specs.Marks.{Mark}
use Rattle.space_memory_bytes.specs.Areas.{byte_at}
use Rattle.space_memory.specs.StackFrames.{stack_of}
use Rattle.pool_list.specs.Blocks.{length_at}
use Rattle.space_memory_access.specs.Held.{HeldState, prepared_region}
use Rattle.space_memory.specs.Spaces.{SpaceState}
use Rattle.space_memory.specs.Releases.{outs_of}
use Rattle.replay_runs.specs.Runs.{Start, marks_of, byte}
use Rattle.replay_runs.specs.Threads.{OpenCall, frames, open_calls}
use Rattle.replay_runs.specs.Pool.{blocks, in_use}
use Rattle.space_memory_laws.specs.Shown.{value_when_held, cell_of, stack_with, pool_with, ranges_at, ins_of}
use Rattle.space_memory_laws.specs.Sound.{IsSound}

-- what is held for a thread is what these open calls read and hold
pub record HoldsFor (held : HeldState) (t : ℕ) (calls : List OpenCall) : Type 0 where
  pub depth : slice_index held.depths t ≡ length calls
  pub ins : (d : ℕ) → map (λ r. r.range) (ins_of (record { thread = t; depth = d }) held.regions) ≡
      ranges_at (λ c. c.ins) d calls
  pub outs : (d : ℕ) → map (λ r. r.range) (outs_of (record { thread = t; depth = d }) held.regions) ≡
      ranges_at (λ c. c.outs) d calls

-- memory above the cut is what the marks of a past, from a start, leave of it. Nothing is said of memory
-- below the cut
pub record StandsFor (s : Start) (past : List Mark) (memory : SpaceState) : Type 0 where
  -- each byte: dead, live with its value, or pending with the value that it had when it was held
  pub bytes : (x : ℕ) → is_system x ≡ false →
      (byte s x past).cell ≡ cell_of (byte_at memory.bytes x) (value_when_held memory.held.regions x)
  -- the size of the block that begins there, or 0
  pub begins : (x : ℕ) → is_system x ≡ false →
      (byte s x past).block ≡ unwrap_or (length_at memory.sides.replay.pool.blocks x) 0
  -- each thread's stack above the cut: the frames that are open
  pub stacks : (t : ℕ) → t < thread_count → stack_of memory.sides.replay.stacks t ≡
      stack_with t (frames (marks_of s t past))
  -- the pool above the cut: the live blocks
  pub pool : memory.sides.replay.pool ≡ pool_with (blocks s past)
  -- each thread's open Calls, with what they read and hold
  pub calls : (t : ℕ) → t < thread_count → HoldsFor memory.held t (open_calls (marks_of s t past))
  -- the region of each key in use
  pub keys : (k : ℕ) → option_map (λ r. r.range) (prepared_region memory.held.regions k) ≡ in_use s k past
  -- where all this lies
  pub sound : IsSound s past memory
