-- The spaces as a value: bytes, what is held, and the two sides.
use Rattle.std.specs.Prelude.{◌≡◌, ◌+◌, ◌^◌, ◌<◌, true, List, length, All}
use Rattle.marks.specs.declared.side.Side.{Side}
use Rattle.marks.specs.declared.side.Side.TheVariants.{Replay, System}
use Rattle.marks.specs.declared.range.Range.{Range}
use Rattle.memory_map.specs.declared.areas.TheConstants.{THREADS, STACK_SIZE}
use Rattle.space_memory.specs.StackFrames.{StackState}
use Rattle.space_memory_bytes.specs.Areas.{AreaState, LiesIn}
use Rattle.space_memory_access.specs.declared.holder.Region.{Region}
use Rattle.space_memory_access.specs.Held.{HeldState}
use Rattle.space_memory_access.specs.Holders.{is_pending}
use Rattle.space_memory.specs.declared.sides.Sides.{Sides}
use Rattle.space_memory.specs.Sides.{SideState, stack_range, pool_range}

-- the bytes, the regions that are held with the open calls, and the stacks and pools
pub record SpaceState : Type 0 where
  pub bytes : List AreaState
  pub held : HeldState
  pub sides : Sides

-- one side
abbrev pub side_of : Sides → Side → SideState
side_of sides Replay = sides.replay
side_of sides System = sides.system

-- the sides with another one of the two
abbrev pub with_side : Sides → Side → SideState → Sides
with_side sides Replay side = record { replay = side; system = sides.system }
with_side sides System side = record { replay = sides.replay; system = side }

-- the stack lies in an area, and ends before the last address
abbrev pub IsHousedStack : List Range → StackState → Type 0
IsHousedStack areas s = LiesIn (stack_range s) areas × (s.base + STACK_SIZE < 2 ^ 64)

-- each thread has a stack, and each stack and the pool of the side lie in an area
pub record IsHoused (areas : List Range) (side : SideState) : Type 0 where
  pub threads : length side.stacks ≡ THREADS
  pub stacks : All (IsHousedStack areas) side.stacks
  pub pool : LiesIn (pool_range side.pool) areas

-- a region that is to be written has a byte for each of its addresses, and ends before the last address
abbrev pub IsWhole : Region → Type 0
IsWhole r = is_pending r.holder ≡ true → (length r.before ≡ r.range.len) ×
    (r.range.addr + r.range.len < 2 ^ 64)

-- what spaces keep
pub record IsKept (areas : List Range) (held : List Region) (sides : Sides) : Type 0 where
  pub replay : IsHoused areas sides.replay
  pub system : IsHoused areas sides.system
  pub regions : All IsWhole held
