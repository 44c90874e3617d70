-- The Stops of a run that makes no more steps, thread by thread.
use Rattle.std.specs.Prelude.{◌≡◌, ℕ, if◌then◌else◌, ◌==◌, List, ◌++◌, map, filter, reverse}
use Rattle.std.specs.List.{range_with_len}
use Rattle.run_events.specs.declared.event.Reason.{Reason}
use Rattle.run_events.specs.declared.event.Reason.TheVariants.{Halted, Fault}
use Rattle.marks.specs.Marks.{Mark}
use Rattle.space_memory_laws.specs.StandsFor.{StandsFor}
use Rattle.steps_above_stamps.specs.Stamps.{AreStampsOf}
use Rattle.whole_runs.specs.declared.ending.Ending.{Ending}
use Rattle.whole_runs.specs.declared.ending.Ending.TheVariants as ending
use Rattle.whole_runs.specs.World.{World, begin}
use Rattle.whole_runs.specs.Sides.{seen}
use Rattle.whole_runs.specs.Threads.{in_replay_mode}
use Rattle.whole_runs.specs.Log.{replay_output, system_output}
use Rattle.whole_runs.specs.Ends.{Follows, IsLast, stop_of}
use Rattle.whole_runs.specs.Fits.{IsFit}
use Rattle.recorder_memory.specs.Stands.{placed}
use Rattle.recorder_threads.specs.Threads.{AreThreadsOf}
use Rattle.recorder_book.specs.Book.{IsBookOf}
use Rattle.recorder_state.specs.declared.state.RunState.{RunState}

-- those of the first threads, so many
abbrev pub first_stops : World → List Mark → (count : ℕ) → List Mark
first_stops w run n = reverse (map (stop_of w run) (filter (in_replay_mode w run) (range_with_len 0 n)))

-- the run with them
abbrev pub with_stops : World → List Mark → (count : ℕ) → List Mark
with_stops w run n = first_stops w run n ++ run

-- why a thread is stopped where a run ends so: for its own fault, or since the run is halted
abbrev pub reason_at : Ending → (thread : ℕ) → Reason
reason_at ending.Done t = Halted
reason_at (ending.Fault kind u) t = if u == t then Fault kind else Halted
reason_at (ending.Breach kind u x other) t = Halted
reason_at (ending.Halted why) t = Halted

-- the run ends so; the stamps and the book are those of the run with the Stops of so many threads, and all
-- else is as it was before them
pub record IsStopping (w : World) (s : RunState) (e : Ending) (count : ℕ) : Type 0 where
  pub fit : IsFit w
  pub past : List Mark
  pub follows : Follows w past
  pub last : List Mark
  pub ends : IsLast w past last e
  pub spaces : StandsFor (begin w) (seen (last ++ past)) s.memory.above.spaces
  pub threads : AreThreadsOf w (last ++ past) s.threads
  pub output : s.output.items ≡ replay_output w (last ++ past)
  pub system_output : s.system_output.items ≡ system_output (last ++ past)
  pub stamps : AreStampsOf (placed w) (seen (with_stops w (last ++ past) count)) s.stamps
  pub book : IsBookOf w (with_stops w (last ++ past) count) s.book
