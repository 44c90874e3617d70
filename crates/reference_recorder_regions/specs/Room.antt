-- When a frame has room in a stack.
use Rattle.std.specs.Prelude.{ℕ, ◌+◌, ◌≤◌, ◌<◌, List, length}
use Rattle.marks.specs.Places.{frame_count, stack_size}
use Rattle.marks.specs.declared.range.Range.{Range}
use Rattle.replay_runs.specs.Threads.{end_of}

-- a frame of so many bytes fits in a stack that begins there and has these frames, and isn't one too many
abbrev pub HasRoomIn : (base : ℕ) → List Range → (size : ℕ) → Type 0
HasRoomIn base fs size = (end_of base fs + size ≤ base + stack_size) × (length fs < frame_count)
