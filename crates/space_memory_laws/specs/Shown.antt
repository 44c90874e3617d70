-- How what a run has, a look back over its marks, is laid out in memory.
use Rattle.std.specs.Prelude.{ℕ, suc, ◌-◌, Bool, false, ◌&&◌, ◌==◌, List, [], ◌∷◌, ◌++◌, length, filter, Option, Some, None, if◌then◌else◌, slice_index_or}
use Rattle.marks.specs.Places.{stack, replay_pool, pool_size}
use Rattle.marks.specs.declared.side.Side.TheVariants.{Replay}
use Rattle.marks.specs.Bytes.{Cell, Dead, Live, Held}
use Rattle.marks.specs.declared.range.Range.{Range}
use Rattle.marks.specs.Ranges.{covers}
use Rattle.space_memory.specs.StackFrames.{StackState}
use Rattle.pool_list.specs.declared.block.Block.{Block}
use Rattle.pool_list.specs.Blocks.{PoolState, with_block}
use Rattle.space_memory_access.specs.declared.holder.Region.{Region}
use Rattle.space_memory_access.specs.declared.holder.OpenCall.{OpenCall}
use Rattle.space_memory_access.specs.declared.holder.Holder.{Holder}
use Rattle.space_memory_access.specs.declared.holder.Holder.TheVariants.{In, Out, Key}
use Rattle.space_memory_access.specs.Holders.{is_pending, is_same_call}
use Rattle.replay_runs.specs.Threads as run

-- a range of marks as a range of memory

-- what the first region that waits and has the address had there when it was held; None where no such
-- region has it
abbrev pub value_when_held : List Region → ℕ → Option ℕ
value_when_held [] x = None
value_when_held (r ∷ rest) x = if is_pending r.holder &&
    covers r.range x then Some (slice_index_or r.before (x - r.range.addr) 0) else value_when_held rest x

-- a byte that is there now, as a run has it: of a pending one it knows the value that it had when it was
-- held
abbrev pub cell_of : Option ℕ → Option ℕ → Cell
cell_of None held = Dead
cell_of (Some now) None = Live now
cell_of (Some now) (Some before) = Held before

-- frames, the innermost last
abbrev pub innermost_last : List Range → List Range
innermost_last [] = []
innermost_last (f ∷ fs) = innermost_last fs ++ f ∷ []

-- the stack of a thread above the cut with these frames, the innermost first
abbrev pub stack_with : ℕ → List Range → StackState
stack_with t fs = record { base = stack Replay t; frames = innermost_last fs }

-- blocks by address
abbrev pub by_address : List Range → List Block
by_address [] = []
by_address (b ∷ bs) = with_block (by_address bs) (record { addr = b.addr; len = b.len })

-- the pool above the cut with these live blocks
abbrev pub pool_with : List Range → PoolState
pool_with bs = record { base = replay_pool; size = pool_size; blocks = by_address bs }

-- the ranges of the open call number d of a thread, 1 for the outermost; none where fewer calls are open
abbrev pub ranges_at : (run.OpenCall → List Range) → ℕ → List run.OpenCall → List Range
ranges_at ranges d [] = []
ranges_at ranges d (c ∷ cs) = if d == suc (length cs) then ranges c else ranges_at ranges d cs

-- whether the call holds the region to read it
abbrev pub is_in_of : OpenCall → Holder → Bool
is_in_of call (In holder) = is_same_call holder call
is_in_of call (Out holder) = false
is_in_of call (Key key by) = false

-- the regions that the call reads, the oldest first
abbrev pub ins_of : OpenCall → List Region → List Region
ins_of call regions = filter (λ r. is_in_of call r.holder) regions
