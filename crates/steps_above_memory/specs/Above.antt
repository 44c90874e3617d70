-- What memory above the cut and its watch stand for.
use Rattle.std.specs.Prelude.{◌≡◌, ℕ, ◌^◌, ◌<◌, true, List, []}
use Rattle.marks.specs.Marks.{Mark}
use Rattle.marks.specs.Bytes.{Byte, touches}
use Rattle.replay_runs.specs.Runs.{In}
use Rattle.replay_runs.specs.Interface.{Program}
use Rattle.replay_runs.specs.Laws.{fresh}
use Rattle.replay_runs.specs.Unseen.{Calm, HasNoObjects}
use Rattle.race_watch.specs.Stands.{Stands}
use Rattle.race_watch_laws.specs.Told.{told}
use Rattle.space_memory_laws.specs.StandsFor.{StandsFor}
use Rattle.steps_above_memory.specs.declared.above.MemoryAbove.{MemoryAbove}

-- what marks touch has an address
abbrev pub TouchAddresses : List Mark → Type 0
TouchAddresses past = (a : Mark) → In a past → (x : ℕ) → touches a.act x ≡ true → x < 2 ^ 64

-- a run that may go on: it began with nothing in the stacks and the pool, and has no race and no fault
pub record GoesWell (program : Program) (memory : ℕ → Byte) (past : List Mark) : Type 0 where
  pub calm : Calm program (fresh memory) past
  pub addresses : TouchAddresses past

-- such a run, of which memory is what its marks leave, and the watch was told them
pub record StandsForAbove (program : Program) (memory : ℕ → Byte) (past : List Mark)
    (above : MemoryAbove) : Type 0 where
  pub goes_well : GoesWell program memory past
  pub spaces : StandsFor (fresh memory) past above.spaces
  pub watch : Stands (told past) above.watch

-- memory that stands for a start stands with its watch for the run that has no marks yet
abbrev pub BeginsAbove : MemoryAbove → Type 0
BeginsAbove above = (program : Program) (memory : ℕ → Byte) → HasNoObjects memory →
    StandsFor (fresh memory) [] above.spaces → StandsForAbove program memory [] above
