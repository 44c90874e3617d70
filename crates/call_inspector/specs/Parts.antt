-- The text of a report that is still to come, part by part.
use Rattle.std.specs.Prelude.{◌≡◌, ◌≤◌, ◌<◌, ◌+◌, ◌*◌, ◌-◌, ◌/◌, ℕ, suc, ◌==◌, ◌&&◌, Bool, true, List, [], ◌∷◌, ◌++◌, length, drop, fold, codes, slice_get, Option, Some, None}
use Rattle.std.specs.List.{list_all}
use Rattle.run_events.specs.declared.event.Record.{Record}
use Rattle.memory_map.specs.declared.areas.TheConstants.{REPLAY_MEMORY}
use Rattle.c_code.specs.Machine.{Flat}
use Rattle.space_memory.specs.Spaces.{SpaceState}
use Rattle.call_inspector.specs.declared.ends.Shown.{Shown}
use Rattle.call_inspector.specs.declared.ends.RunEnd.{RunEnd}
use Rattle.call_inspector.specs.declared.lines.Passed.{Passed}
use Rattle.call_inspector.specs.declared.parts.Position.{Position}
use Rattle.call_inspector.specs.declared.parts.Position.TheVariants.{Thread, Events, Rows, Nothing}
use Rattle.call_inspector.specs.declared.parts.State.{State}
use Rattle.call_inspector.specs.Open.{open_after}
use Rattle.call_inspector.specs.ThreadText.{event_line, threads_from}
use Rattle.call_inspector.specs.MemoryText.{memory_text, rows_from}
use Rattle.call_inspector.specs.Ending.{or_else, thread_fault, fault_in, fault_from_thread, spawned, has_begun, has_up, is_over, ending_or, ending_text}

-- ---- what events of a thread add, where these calls and callbacks are open before them

-- their lines, of which the first has this index
abbrev pub lines_from : Flat → List ℕ → ℕ → List Record → List ℕ
lines_from code active index [] = []
lines_from code active index (r ∷ rs) = event_line code active index r ++
    lines_from code (open_after active r.event) (suc index) rs

-- each thread that they give has an Up
abbrev pub begun_from : List (List Record) → List ℕ → List Record → Bool
begun_from threads active [] = true
begun_from threads active (r ∷ rs) = has_begun threads (spawned active r.event) &&
    begun_from threads (open_after active r.event) rs

-- the calls and callbacks that are open after them
abbrev pub open_from : List ℕ → List Record → List ℕ
open_from active rs = fold (λ now r. open_after now r.event) active rs

-- the fault of their thread, and whether it is over, with what its earlier events say
abbrev pub fault_with : Passed → List Record → Option ℕ
fault_with passed rs = or_else passed.end.fault (thread_fault rs)

abbrev pub over_with : List (List Record) → Passed → List Record → Bool
over_with threads passed rs = (passed.end.begun && begun_from threads passed.active rs) &&
    length (open_from passed.active rs) == 0

-- the lines of events from one up to another were added, and what they say was passed
pub record PutsLines (code : Flat) (threads : List (List Record)) (rs : List Record) (from : ℕ) (old : List ℕ)
    (was : Passed) (to : ℕ) (new : List ℕ) (now : Passed) : Type 0 where
  pub text : new ++ lines_from code now.active to (drop to rs) ≡
      old ++ lines_from code was.active from (drop from rs)
  pub fault : fault_with now (drop to rs) ≡ fault_with was (drop from rs)
  pub over : over_with threads now (drop to rs) ≡ over_with threads was (drop from rs)

-- ---- rows, counted from the first above the cut

abbrev pub row_at : ℕ → ℕ
row_at row = REPLAY_MEMORY.addr + 16 * row

abbrev pub rows_count : ℕ
rows_count = REPLAY_MEMORY.len / 16

-- the line of the first row from one on that has a live byte was added, and this one comes after it; or none has
abbrev pub PutsRow : SpaceState → List ℕ → ℕ → List ℕ → Option ℕ → Type 0
PutsRow memory old row new None = (new ≡ old) × (rows_from memory (row_at row) ≡ [])
PutsRow memory old row new (Some next) = (new ++ rows_from memory (row_at next) ≡
    old ++ rows_from memory (row_at row))
    × (row < next) × (next ≤ rows_count)

-- ---- the report

-- how the run ended, by what was found so far, and what the rest says
abbrev pub ending_with : List (List Record) → RunEnd → Option Shown → Bool → Shown
ending_with threads end fault over = ending_or (or_else end.fault fault) (has_up (slice_get threads 0) &&
    (end.over && over))

abbrev pub ending_line : Shown → List ℕ
ending_line shown = codes "end " ++ ending_text shown ++ codes "\n"

abbrev pub after_threads : SpaceState → Shown → List ℕ
after_threads memory shown = codes "memory\n" ++ memory_text memory ++ ending_line shown

-- the threads from the next one on, and what comes after them, where this fault and this are what a thread before says
-- that isn't noted yet
abbrev pub threads_left : State → Option Shown → Bool → List ℕ
threads_left s fault over =
    let threads = s.run.now.threads in
    let more = drop s.next threads in
    threads_from s.code.now s.next more ++
    after_threads s.run.now.memory (ending_with threads s.end (or_else fault (fault_from_thread s.next more))
    (over && list_all (is_over threads) more))

abbrev pub left_at : State → Position → List ℕ
left_at s Thread = threads_left s None true
left_at s (Events thread records index) =
    let rs = drop index records.now in
    lines_from s.code.now s.passed.active index rs ++
    threads_left s (fault_in thread (fault_with s.passed rs)) (over_with s.run.now.threads s.passed rs)
left_at s (Rows row shown) = rows_from s.run.now.memory (row_at row) ++ ending_line shown
left_at s Nothing = []

abbrev pub left_of : State → List ℕ
left_of s = left_at s s.place

-- ---- how many parts are still to come, at most

abbrev pub most_of_threads : List (List Record) → ℕ
most_of_threads [] = 2 + rows_count
most_of_threads (rs ∷ more) = 2 + length rs + most_of_threads more

abbrev pub most_at : State → Position → ℕ
most_at s Thread = most_of_threads (drop s.next s.run.now.threads)
most_at s (Events thread records index) = 1 + (length records.now - index) +
    most_of_threads (drop s.next s.run.now.threads)
most_at s (Rows row shown) = 1 + (rows_count - row)
most_at s Nothing = 0

abbrev pub most_of : State → ℕ
most_of s = most_at s s.place

-- the text that is still to come, in so many parts at most
pub record Left : Type 0 where
  pub text : List ℕ
  pub most : ℕ

abbrev pub left : State → Left
left s = record { text = left_of s; most = most_of s }

-- a part was added
pub record IsNext (old : List ℕ) (was : State) (new : List ℕ) (now : State) : Type 0 where
  pub text : new ++ left_of now ≡ old ++ left_of was
  pub fewer : most_of now < most_of was
