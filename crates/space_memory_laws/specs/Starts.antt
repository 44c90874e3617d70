-- The start of a run, with the objects of a program in place.
use Rattle.std.specs.Prelude.{◌≡◌, ℕ, false, [], None, All, replicate}
use Rattle.marks.specs.Places.{is_system}
use Rattle.marks.specs.Bytes.{Byte}
use Rattle.memory_map.specs.declared.placed.Placed.{Placed}
use Rattle.memory_map.specs.declared.areas.TheConstants.{THREADS, REPLAY_STACKS, REPLAY_POOL, SYSTEM_STACKS, SYSTEM_POOL}
use Rattle.space_memory_bytes.specs.Areas.{byte_at}
use Rattle.replay_runs.specs.Laws.{fresh}
use Rattle.space_memory.specs.Spaces.{SpaceState}
use Rattle.space_memory.specs.Sides.{fresh_side}
use Rattle.space_memory.specs.Objects.{IsInArea, byte_of}
use Rattle.space_memory_laws.specs.Shown.{cell_of}
use Rattle.space_memory_laws.specs.StandsFor.{StandsFor}

-- a byte of the globals and strings, which begins no block
abbrev pub placed_byte : Placed → ℕ → Byte
placed_byte placed x = record {
  cell = cell_of (byte_of placed.strings x (byte_of placed.globals x None))
      None;
  block = 0;
}

-- memory that `Spaces::new` gives stands for the start at which nothing was done and each byte outside
-- system memory is
-- that of a placed object
abbrev pub NewMemoryStandsForTheStart : Type 0
NewMemoryStandsForTheStart =
    (placed : Placed) (start : ℕ → Byte) (memory : SpaceState) →
    All IsInArea placed.globals →
    All IsInArea placed.strings →
    ((x : ℕ) → is_system x ≡ false → start x ≡ placed_byte placed x) →
    ((x : ℕ) → byte_at memory.bytes x ≡ byte_of placed.strings x (byte_of placed.globals x None)) →
    memory.held ≡ record { regions = []; depths = replicate THREADS 0 } →
    memory.sides ≡ record {
      replay = fresh_side REPLAY_STACKS REPLAY_POOL;
      system =
          fresh_side SYSTEM_STACKS SYSTEM_POOL;
    } →
    StandsFor (fresh start) [] memory
