-- The memory before a whole run.
use Rattle.std.specs.Prelude.{◌≡◌, ℕ, [], None, All, replicate}
use Rattle.memory_map.specs.declared.areas.TheConstants.{THREADS, REPLAY_STACKS, REPLAY_POOL, SYSTEM_STACKS, SYSTEM_POOL}
use Rattle.space_memory_bytes.specs.Areas.{byte_at}
use Rattle.space_memory.specs.Spaces.{SpaceState}
use Rattle.space_memory.specs.Sides.{fresh_side}
use Rattle.space_memory.specs.Objects.{IsInArea, byte_of}
use Rattle.whole_runs.specs.World.{World}
use Rattle.whole_runs_memory.specs.Stands.{StandsForWhole}

-- memory that `Spaces::new` gives for the objects of a world stands for the run in which nothing was done,
-- where each object lies in an area
abbrev pub NewMemoryIsWhole : World → Type 0
NewMemoryIsWhole w =
    (memory : SpaceState) →
    All IsInArea w.laid.placed.globals →
    All IsInArea w.laid.placed.strings →
    ((x : ℕ) → byte_at memory.bytes x ≡
    byte_of w.laid.placed.strings x (byte_of w.laid.placed.globals x None)) →
    memory.held ≡ record { regions = []; depths = replicate THREADS 0 } →
    memory.sides ≡ record {
      replay = fresh_side REPLAY_STACKS REPLAY_POOL;
      system =
          fresh_side SYSTEM_STACKS SYSTEM_POOL;
    } →
    StandsForWhole w [] memory
