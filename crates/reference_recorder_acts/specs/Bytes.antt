-- Bytes of memory, and those of frames.
use Rattle.std.specs.Prelude.{◌≡◌, ◌≢◌, ℕ, ◌-◌, ◌<◌, ◌^◌, true, List, ◌++◌, length, replicate, None}
use Rattle.std.specs.Int.{next_multiple_of}
use Rattle.marks.specs.declared.range.Range.{Range}
use Rattle.marks.specs.Ranges.{are_bytes, bytes_of_number, covers}
use Rattle.memory_map.specs.declared.placed.Placed.{Placed}
use Rattle.c_code.specs.declared.shape.Shape.{Shape}
use Rattle.c_code.specs.Frames.{size_of}
use Rattle.whole_runs.specs.World.{World}
use Rattle.whole_runs.specs.Memory.{Has, real}
use Rattle.reference_recorder_marks.specs.declared.mark.Mark.{Mark}
use Rattle.reference_recorder_marks.specs.Marks.{past}

-- an address at which a byte is there, for code of both sides
pub record IsThere (w : World) (marks : List Mark) (x : ℕ) : Type 0 where
  pub low : x < 2 ^ 64
  pub live : real w (past marks) x ≢ None

-- so is each address of the range, in a world with these objects
pub record AreThere (placed : Placed) (marks : List Mark) (r : Range) : Type 0 where
  pub world : World
  pub objects : world.laid.placed ≡ placed
  pub each : (x : ℕ) → covers r x ≡ true → IsThere world marks x

-- these are the bytes of the range
pub record IsRead (w : World) (marks : List Mark) (r : Range) (bytes : List ℕ) : Type 0 where
  pub count : length bytes ≡ r.len
  pub small : are_bytes bytes ≡ true
  pub has : Has (real w (past marks)) r.addr bytes

-- bytes of a frame, and an argument where its parameter lies next: at the next multiple of its size
abbrev pub with_param : List ℕ → Shape → (value : ℕ) → List ℕ
with_param bytes s v =
    bytes ++ replicate (next_multiple_of (length bytes) (size_of s) - length bytes) 0 ++
    bytes_of_number (size_of s) v
