-- The objects that are placed before a run: globals and strings.
use Rattle.std.specs.Prelude.{ℕ, ◌+◌, ◌-◌, ◌*◌, ◌≤◌, ◌<◌, ◌⊎◌, List, [], ◌∷◌, length, Option, Some, if◌then◌else◌, slice_index}
use Rattle.marks.specs.declared.range.Range.{Range}
use Rattle.marks.specs.Ranges.{covers}
use Rattle.memory_map.specs.declared.placed.Place.{Place}
use Rattle.memory_map.specs.declared.areas.TheConstants.{THREADS, CONSTANTS, GLOBALS_SIZE, STACK_SIZE, POOL_SIZE, REPLAY_GLOBALS, REPLAY_STACKS, REPLAY_POOL, SYSTEM_GLOBALS, SYSTEM_STACKS, SYSTEM_POOL}

-- the addresses of an object
abbrev pub object_range : Place → Range
object_range o = record { addr = o.addr; len = length o.init }

-- an object lies whole among the constants, which end before the replay globals, or in an area of globals
abbrev pub IsInArea : Place → Type 0
IsInArea o =
    ((CONSTANTS.addr ≤ o.addr) × (o.addr + length o.init < REPLAY_GLOBALS))
    ⊎ ((REPLAY_GLOBALS ≤ o.addr) × (o.addr + length o.init ≤ REPLAY_GLOBALS + GLOBALS_SIZE))
    ⊎ ((SYSTEM_GLOBALS ≤ o.addr) × (o.addr + length o.init ≤ SYSTEM_GLOBALS + GLOBALS_SIZE))

-- the byte that objects give an address: that of the one that has it, and the given one where none does
abbrev pub byte_of : List Place → ℕ → Option ℕ → Option ℕ
byte_of [] x byte = byte
byte_of (o ∷ rest) x byte = byte_of rest x (if covers (object_range o) x then Some
    (slice_index o.init (x - o.addr)) else byte)

-- the areas, where the constants end at an address
abbrev pub areas_to : ℕ → List Range
areas_to end =
    record { addr = CONSTANTS.addr; len = end - CONSTANTS.addr }
    ∷ record { addr = REPLAY_GLOBALS; len = GLOBALS_SIZE }
    ∷ record { addr = REPLAY_STACKS; len = THREADS * STACK_SIZE }
    ∷ record { addr = REPLAY_POOL; len = POOL_SIZE }
    ∷ record { addr = SYSTEM_GLOBALS; len = GLOBALS_SIZE }
    ∷ record { addr = SYSTEM_STACKS; len = THREADS * STACK_SIZE }
    ∷ record { addr = SYSTEM_POOL; len = POOL_SIZE }
    ∷ []
