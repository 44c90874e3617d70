-- What a recording of a system file gives.
use Rattle.std.specs.Prelude.{◌≡◌, ℕ, List, map, reverse}
use Rattle.std.specs.List.{range_with_len}
use Rattle.run_events.specs.declared.event.Record.{Record}
use Rattle.marks.specs.Places.{thread_count}
use Rattle.marks.specs.Marks.{Mark}
use Rattle.replay_runs.specs.Runs.{history}
use Rattle.space_memory.specs.Spaces.{SpaceState}
use Rattle.space_memory_laws.specs.StandsFor.{StandsFor}
use Rattle.whole_runs.specs.declared.ending.Ending.{Ending}
use Rattle.whole_runs.specs.World.{World, begin}
use Rattle.whole_runs.specs.Sides.{seen}
use Rattle.whole_runs.specs.Records.{full_record}
use Rattle.whole_runs.specs.Ends.{IsRun}
use Rattle.whole_runs.specs.Log.{log_of, replay_output, system_output}

-- the events of each thread, the oldest first, with their full values
abbrev pub full_records : World → List Mark → List (List Record)
full_records w run = map (λ t. reverse (history full_record (begin w) t run)) (range_with_len 0 thread_count)

-- what is told of a recording: the bytes of its log, its events by thread, the memory above the cut at
-- its end, what was printed above the cut and below it, and how it ended
pub record Told : Type 0 where
  pub log : List ℕ
  pub threads : List (List Record)
  pub memory : SpaceState
  pub output : List ℕ
  pub system_output : List ℕ
  pub ending : Ending

-- all that is what the run of the system file has
pub record IsRecording (w : World) (told : Told) : Type 0 where
  pub run : List Mark
  pub is_run : IsRun w run told.ending
  pub log : told.log ≡ log_of w run
  pub threads : told.threads ≡ full_records w run
  pub memory : StandsFor (begin w) (seen run) told.memory
  pub output : told.output ≡ replay_output w run
  pub system_output : told.system_output ≡ system_output run
