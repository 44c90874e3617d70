-- Whether there is room for an event.
use Rattle.std.specs.Prelude.{◌≡◌, ℕ, List, [], Option, Some, None}
use Rattle.run_events.specs.declared.event.Event.{Event}
use Rattle.marks.specs.Marks.{Mark}
use Rattle.whole_runs.specs.declared.ending.Ending.{Ending}
use Rattle.whole_runs.specs.World.{World}
use Rattle.whole_runs.specs.Steps.{Picked}
use Rattle.whole_runs.specs.Records.{size_of}
use Rattle.whole_runs.specs.Ends.{HasRoomFor, IsLast, IsMadeEvent}
use Rattle.recorder_book.specs.Book.{BookState, IsBookOf}
use Rattle.recorder_book.specs.Sizes.{IsSizeOf}

-- the record of the mark has as many bytes as this event with so many keys
abbrev pub HasSizeOf : Event → (keys : ℕ) → Mark → Type 0
HasSizeOf e keys m = (size : ℕ) → IsSizeOf e keys size → size ≡ size_of m

-- whatever run the book stands for, there is room for each such mark, or this is the end of the run in which it would come next
abbrev pub IsRoomOrEnd : BookState → Event → (keys : ℕ) → Option Ending → Type 0
IsRoomOrEnd b e keys None = (w : World) (past : List Mark) (m : Mark) → IsBookOf w past b →
    HasSizeOf e keys m → HasRoomFor past m
IsRoomOrEnd b e keys (Some end) = (w : World) (past : List Mark) (s : Picked w past) (m : Mark) →
    IsBookOf w past b → HasSizeOf e keys m → IsMadeEvent w past s m → IsLast w past [] end
