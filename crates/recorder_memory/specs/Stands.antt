-- Which whole runs the memory of a recorder stands for.
use Rattle.std.specs.Prelude.{◌≡◌, ℕ, List, []}
use Rattle.marks.specs.Marks.{Mark}
use Rattle.marks.specs.Bytes.{Byte}
use Rattle.memory_map.specs.declared.placed.Placed.{Placed}
use Rattle.space_memory_laws.specs.Starts.{placed_byte}
use Rattle.steps_above_memory.specs.Above.{StandsForAbove}
use Rattle.whole_runs.specs.World.{World, program_of}
use Rattle.whole_runs.specs.Sides.{seen}
use Rattle.whole_runs.specs.Fits.{IsFit}
use Rattle.whole_runs_memory.specs.Stands.{StandsForWhole}
use Rattle.recorder_memory.specs.declared.memory.Memory.{Memory}

-- the bytes of the objects before a run
abbrev pub placed : World → (x : ℕ) → Byte
placed w = placed_byte w.laid.placed

-- with its watch, memory above the cut is that of what a replay sees, also where a step was broken off
abbrev pub StandsForSeen : World → List Mark → Memory → Type 0
StandsForSeen w past memory = StandsForAbove (program_of w) (placed w) (seen past) memory.above

-- and memory of both sides is what the marks leave
pub record StandsForRun (w : World) (past : List Mark) (memory : Memory) : Type 0 where
  pub whole : StandsForWhole w past memory.above.spaces
  pub above : StandsForSeen w past memory

-- memory before a run, in each fit world with these objects
abbrev pub BeginsRuns : Placed → Memory → Type 0
BeginsRuns objects memory = (w : World) → IsFit w → w.laid.placed ≡ objects → StandsForRun w [] memory
