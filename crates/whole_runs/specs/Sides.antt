-- The marks of one side of the cut. Events stand above it, whichever code makes them.
use Rattle.std.specs.Prelude.{ℕ, ◌+◌, ◌<◌, ◌≤◌, List, length}
use Rattle.marks.specs.declared.side.Side.{Side}
use Rattle.marks.specs.declared.side.Side.TheVariants.{Replay, System}
use Rattle.marks.specs.Places.{frame_count, stack, stack_size}
use Rattle.marks.specs.declared.range.Range.{Range}
use Rattle.marks.specs.Marks.{Mark}
use Rattle.c_code.specs.MarkLists.{replay_part}
use Rattle.c_code.specs.Opens.{system_part}
use Rattle.replay_runs.specs.Runs.{OfThread, marks_of, events_with}
use Rattle.replay_runs.specs.Threads.{frames, end_of}
use Rattle.whole_runs.specs.World.{World, begin}

-- what a replay sees of a run
abbrev pub seen : List Mark → List Mark
seen past = replay_part past

abbrev pub part_of : Side → List Mark → List Mark
part_of Replay past = seen past
part_of System past = system_part past

-- a thread's own marks, of both sides
abbrev pub own : World → (thread : ℕ) → List Mark → List Mark
own w t past = marks_of (begin w) t past

-- how many events a thread made
abbrev pub events_by : World → (thread : ℕ) → List Mark → ℕ
events_by w t past = length (events_with (begin w) (OfThread t) past)

-- a thread's frames on a side, the innermost first
abbrev pub frames_on : World → Side → (thread : ℕ) → List Mark → List Range
frames_on w side t past = frames (part_of side (own w t past))

-- where its next frame lies there: at the first byte after them
abbrev pub place_on : World → Side → (thread : ℕ) → List Mark → ℕ
place_on w side t past = end_of (stack side t) (frames_on w side t past)

-- a frame of so many bytes fits in the stack there, and isn't one too many
abbrev pub HasRoomOn : World → Side → (thread : ℕ) → List Mark → (size : ℕ) → Type 0
HasRoomOn w side t past size = (place_on w side t past + size ≤ stack side t + stack_size) ×
    (length (frames_on w side t past) < frame_count)
