-- How a run ends after its marks.
use Rattle.std.specs.Prelude.{◌≡◌, ℕ, List, ◌++◌, Option}
use Rattle.std.specs.Option.{option_to_list}
use Rattle.marks.specs.Marks.{Mark}
use Rattle.c_machine.specs.Moves.{ThreadState}
use Rattle.space_memory.specs.Spaces.{SpaceState}
use Rattle.space_memory_laws.specs.StandsFor.{StandsFor}
use Rattle.whole_runs.specs.declared.ending.Ending.{Ending}
use Rattle.whole_runs.specs.World.{World, begin}
use Rattle.whole_runs.specs.Sides.{seen}
use Rattle.whole_runs.specs.Ends.{IsLast, IsRun, stops}
use Rattle.whole_runs.specs.Fits.{IsFit}
use Rattle.recorder_threads.specs.Threads.{AreThreadsOf}
use Rattle.recorder_end.specs.Stops.{first_stops}
use Rattle.reference_recorder_marks.specs.declared.mark.Mark.{Mark as Told}
use Rattle.reference_recorder_marks.specs.Marks.{past as past_of, without_origins}
use Rattle.reference_recorder_threads.specs.Telling.{IsPast}
use Rattle.reference_recorder_laws.specs.AtEnd.{IsPastAtEnd}

-- a run comes to the marks and ends so; after them stands the mark of a fault, or none
pub record IsEnded (w : World) (marks : List Told) (last : Option Told) (ending : Ending) : Type 0 where
  pub past : IsPast w marks
  pub mark : List Mark
  pub ends : IsLast w past.run mark ending
  pub same : without_origins mark ≡ past_of (option_to_list last)

-- the marks are those of a run at its end, the mark of a fault among them, and these its threads
pub record AreAtEnd (w : World) (run : List Told) (threads : List ThreadState) : Type 0 where
  pub past : IsPastAtEnd w run
  pub are : AreThreadsOf w (past.last ++ past.past) threads

-- these are the Stops of the first of its threads, so many
abbrev pub AreFirstStops : World → List Told → List ThreadState → (count : ℕ) → List Told → Type 0
AreFirstStops w run threads n added = (e : AreAtEnd w run threads) →
    past_of added ≡ first_stops w (e.past.last ++ e.past.past) n

-- these are its Stops
abbrev pub AreStops : World → List Told → List ThreadState → List Told → Type 0
AreStops w run threads added = (e : AreAtEnd w run threads) →
    past_of added ≡ stops w (e.past.last ++ e.past.past)

-- the marks are those of a whole run that ends so, which leaves this memory
pub record IsWhole (w : World) (chunk : ℕ) (marks : List Told) (memory : SpaceState) (ending : Ending) :
    Type 0 where
  pub fit : IsFit w
  pub chunk_is : w.file.chunk ≡ chunk
  pub run : List Mark
  pub is_run : IsRun w run ending
  pub same : without_origins run ≡ past_of marks
  pub stands : StandsFor (begin w) (seen run) memory
