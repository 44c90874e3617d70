-- Which runs a book stands for.
use Rattle.std.specs.Prelude.{◌≡◌, ℕ, ◌+◌, ◌*◌, ◌<◌, ◌≤◌, true, false, List, [], ◌∷◌, ◌++◌, length, reverse}
use Rattle.std.specs.List.{flat_map, AllByRecursion}
use Rattle.run_events.specs.declared.event.Record.{Record}
use Rattle.marks.specs.Places.{thread_count}
use Rattle.marks.specs.Marks.{Mark, is_event}
use Rattle.log_codec.specs.LogText.{chunk_text, head_text}
use Rattle.replay_runs.specs.Runs.{history}
use Rattle.whole_runs.specs.World.{World, begin}
use Rattle.whole_runs.specs.Records.{version, full_record, size_of}
use Rattle.whole_runs.specs.Ends.{Follows, HasRoomFor, bytes_of, events_of, most_bytes, most_events, stop_of}
use Rattle.whole_runs.specs.Log.{chunks, log_of}
use Rattle.whole_runs.specs.Recorded.{full_records}
use Rattle.recorder_book.specs.declared.room.Room.{Room}
use Rattle.recorder_book.specs.declared.room.Room.TheVariants.{Free, Events, Full}
use Rattle.recorder_book.specs.Chunks.{AreKept}

-- what a book has: how many records make a chunk, how many events there are, the bytes of their records,
-- the log so far, and the records of each thread
pub record BookState : Type 0 where
  pub chunk : ℕ
  pub events : ℕ
  pub bytes : ℕ
  pub log : List ℕ
  pub threads : List (List Record)

-- what holds of each book
pub record IsSound (b : BookState) : Type 0 where
  pub chunk : 1 ≤ b.chunk
  pub threads : length b.threads ≡ thread_count
  pub records : AreKept b.threads

-- the event is of a thread that a run can have
abbrev pub IsOfAThread : Mark → Type 0
IsOfAThread m = m.thread < thread_count

-- the book is that of the run's events so far; the log has the chunks that are full
pub record IsBookOf (w : World) (past : List Mark) (b : BookState) : Type 0 where
  pub chunk : b.chunk ≡ w.file.chunk
  pub events : b.events ≡ length (events_of past)
  pub bytes : b.bytes ≡ bytes_of past
  pub own : AllByRecursion IsOfAThread (events_of past)
  pub threads : b.threads ≡ full_records w past
  pub log : b.log ≡ head_text version ++ flat_map (chunk_text version.number) (chunks w past)

-- the book of each run with such chunks before its first mark
abbrev pub Begins : (chunk : ℕ) → BookState → Type 0
Begins chunk b = (w : World) → w.file.chunk ≡ chunk → IsBookOf w [] b

-- the answer says whether the event is one of the run, and which end comes if it isn't
abbrev pub IsRoomFor : List Mark → Mark → Room → Type 0
IsRoomFor past m Free = HasRoomFor past m
IsRoomFor past m Events = most_events ≤ length (events_of past)
IsRoomFor past m Full =
    (length (events_of past) < most_events) × (most_bytes < bytes_of past + size_of m)

-- whatever run the book stands for, that is the answer for each event of this size
abbrev pub IsRoomAfter : BookState → (size : ℕ) → Room → Type 0
IsRoomAfter b size room = (w : World) (past : List Mark) (m : Mark) → IsBookOf w past b →
    size ≡ size_of m → IsRoomFor past m room

-- whatever run the old book stands for, the new one stands for it with each event that has this record
abbrev pub Adds : Record → BookState → BookState → Type 0
Adds r old new = (w : World) (past : List Mark) (m : Mark) → is_event m.act ≡ true → r ≡ full_record m →
    IsBookOf w past old → IsBookOf w (m ∷ past) new

-- whatever run the book stands for, this is its log
abbrev pub GivesLog : BookState → List ℕ → Type 0
GivesLog b log = (w : World) (run : List Mark) → IsBookOf w run b → log ≡ log_of w run

-- and these are its records
abbrev pub GivesRecords : BookState → List (List Record) → Type 0
GivesRecords b threads = (w : World) (run : List Mark) → IsBookOf w run b → threads ≡ full_records w run

-- and these are those of one thread
abbrev pub GivesRecordsOf : BookState → (thread : ℕ) → List Record → Type 0
GivesRecordsOf b t records = (w : World) (past : List Mark) → IsBookOf w past b →
    records ≡ reverse (history full_record (begin w) t past)

-- a mark that is no event leaves the book standing
abbrev pub PlainMarksKeepTheBook : Type 0
PlainMarksKeepTheBook = (w : World) (past : List Mark) (m : Mark) (b : BookState) →
    is_event m.act ≡ false → IsBookOf w past b → IsBookOf w (m ∷ past) b

-- a Stop has a kind, steps, a clock, no keys, and a reason
abbrev pub stop_size : ℕ
stop_size = 11

abbrev pub StopsAreShort : Type 0
StopsAreShort = (w : World) (run : List Mark) (thread : ℕ) → size_of (stop_of w run thread) ≡ stop_size

-- the mark is no event, or has no more bytes than a Stop
abbrev pub IsShort : Mark → Type 0
IsShort m = is_event m.act ≡ true → size_of m ≤ stop_size

-- so many marks after its last step, the book of a run has at most so many events and bytes
pub record IsSmall (after : ℕ) (b : BookState) : Type 0 where
  pub events : b.events ≤ most_events + after
  pub bytes : b.bytes ≤ most_bytes + stop_size * after

-- what comes after the steps is a fault and Stops
abbrev pub BooksStaySmall : Type 0
BooksStaySmall = (w : World) (past after : List Mark) (b : BookState) → Follows w past →
    AllByRecursion IsShort after → IsBookOf w (after ++ past) b → IsSmall (length after) b
