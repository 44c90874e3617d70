-- The records of threads, and the log that they are in.
use Rattle.std.specs.Prelude.{◌≡◌, ℕ, List, map, reverse}
use Rattle.std.specs.List.{range_with_len}
use Rattle.run_events.specs.declared.event.Record.{Record}
use Rattle.marks.specs.Places.{thread_count}
use Rattle.marks.specs.Marks.{Mark}
use Rattle.replay_runs.specs.Runs.{OfThread, new_events}
use Rattle.whole_runs.specs.World.{World}
use Rattle.whole_runs.specs.Records.{full_record}
use Rattle.whole_runs.specs.Log.{log_of, replay_output}
use Rattle.whole_runs.specs.Recorded.{full_records}

-- the records of the thread's events, the oldest first
abbrev pub records_of : List Mark → (thread : ℕ) → List Record
records_of run t = reverse (map full_record (new_events (OfThread t) run))

abbrev pub all_of : List Mark → List (List Record)
all_of run = map (records_of run) (range_with_len 0 thread_count)

-- those of each thread, whatever the code and the file of the run
abbrev pub AreRecordsOf : List Mark → List (List Record) → Type 0
AreRecordsOf run threads = (w : World) → threads ≡ full_records w run

-- the log of the run, whatever its code and file, where so many records make a chunk
abbrev pub IsLogOf : (chunk : ℕ) → List Mark → List ℕ → Type 0
IsLogOf chunk run log = (w : World) → w.file.chunk ≡ chunk → log ≡ log_of w run

-- what was printed above the cut
abbrev pub IsOutputOf : List Mark → List ℕ → Type 0
IsOutputOf run bytes = (w : World) → bytes ≡ replay_output w run
