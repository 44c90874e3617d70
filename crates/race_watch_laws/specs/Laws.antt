-- A watch that is told a run answers as the rules of runs.
use Rattle.std.specs.Prelude.{◌≡◌, ◌↔◌, ℕ, ◌+◌, ◌≤◌, ◌^◌, Bool, false, List, length, Some}
use Rattle.marks.specs.declared.breach.BreachKind.TheVariants.{Race}
use Rattle.marks.specs.Places.{is_constant}
use Rattle.marks.specs.declared.range.Range.{Range}
use Rattle.marks.specs.Ranges.{range}
use Rattle.marks.specs.Marks.{Mark}
use Rattle.marks.specs.Bytes.{Byte}
use Rattle.replay_runs.specs.Runs.{Link, OfThread, Run, events_with}
use Rattle.replay_runs.specs.Known.{known, touched_by, wrote_by}
use Rattle.replay_runs.specs.Laws.{fresh}
use Rattle.replay_runs.specs.Interface.{Program}
use Rattle.replay_runs.specs.Rules.{replay_rules}
use Rattle.replay_runs.specs.Checks.{Races, Finds, Passes, BreachFound, Done, race_check}
use Rattle.race_watch.specs.Told.{place, touched, wrote, knows, IsRaced, IsRace}
use Rattle.race_watch.specs.Stands.{NoRace}
use Rattle.race_watch_laws.specs.Told.{told}

-- the marks are a run of the program, from a start at which nothing was done
abbrev pub IsRunOf : Program → (ℕ → Byte) → List Mark → Type 0
IsRunOf program memory past = Run (replay_rules program (fresh memory)) (fresh memory) past

-- what the watch knows of the run
pub record KnowsTheRun (memory : ℕ → Byte) (past : List Mark) : Type 0 where
  pub places : (t : ℕ) → place t (told past) ≡ length (events_with (fresh memory) (OfThread t) past)
  pub known : (l : Link) (u : ℕ) → knows (told past) l u ≡ known past l u
  pub wrote : (u x : ℕ) → is_constant x ≡ false → wrote u x (told past) ≡ wrote_by past u x
  pub touched : (u x : ℕ) → is_constant x ≡ false → touched u x (told past) ≡ touched_by past u x
  pub races : (t : ℕ) (write : Bool) (x u : ℕ) → IsRaced t write (told past) x u ↔ Races past t write x u

abbrev pub WatchKnowsWhatRunsTell : Type 0
WatchKnowsWhatRunsTell = (program : Program) (memory : ℕ → Byte) (past : List Mark) →
    IsRunOf program memory past → KnowsTheRun memory past

-- the watch names a race of an access exactly where the check of runs finds it, and takes the access where
-- that passes
pub record AnswersAsTheRun (past : List Mark) (t : ℕ) (r : Range) (write : Bool) : Type 0 where
  pub races : (other addr : ℕ) → IsRace t r write (told past) other addr ↔ Finds
      (race_check past t write (range r.addr r.len) Done) (BreachFound Race addr (Some other))
  pub none : NoRace (told past) t r write ↔ Passes (race_check past t write (range r.addr r.len) Done)

-- of a range that ends where addresses end
abbrev pub WatchAnswersAsRuns : Type 0
WatchAnswersAsRuns = (program : Program) (memory : ℕ → Byte) (past : List Mark) →
    IsRunOf program memory past → (t : ℕ) (r : Range) (write : Bool) → r.addr + r.len ≤ 2 ^ 64 →
    AnswersAsTheRun past t r write
