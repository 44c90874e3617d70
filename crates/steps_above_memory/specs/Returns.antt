-- What it says that a Ret is made, or refused.
use Rattle.std.specs.Prelude.{◌≡◌, ℕ, true, Bool, List, ◌∷◌, ◌++◌, map, Option}
use Rattle.run_events.specs.declared.key.Key.{Key}
use Rattle.run_events.specs.declared.key.KeyMark.{KeyMark}
use Rattle.marks.specs.declared.range.Range.{Range}
use Rattle.marks.specs.Ranges.{Piece, piece_ranges}
use Rattle.marks.specs.Marks.{Commit, Mark, Ret, released}
use Rattle.marks.specs.Bytes.{Byte}
use Rattle.logical_clock.specs.Events.{occurrence}
use Rattle.race_watch.specs.Told.{Told, Happened}
use Rattle.race_watch.specs.State.{WatchState}
use Rattle.race_watch.specs.Stands.{Stands}
use Rattle.race_watch_laws.specs.Told.{tell}
use Rattle.replay_runs.specs.Runs.{Allowed, marks_of}
use Rattle.replay_runs.specs.Interface.{Program}
use Rattle.replay_runs.specs.Threads.{open_calls}
use Rattle.replay_runs.specs.Rules.{Closes, replay_rules}
use Rattle.replay_runs.specs.Laws.{fresh}
use Rattle.replay_runs.specs.Checks.{Checks, Passes, return_checks}
use Rattle.space_memory.specs.Releases.{committed_size}
use Rattle.space_memory_laws.specs.Returns.{AreUsedSizes, CommitsAs, IsCommitted, ShowUsed, filled}
use Rattle.steps_above_memory.specs.declared.above.MemoryAbove.{MemoryAbove}
use Rattle.steps_above_memory.specs.declared.refusal.StepRefusal.{StepRefusal}
use Rattle.steps_above_memory.specs.Above.{StandsForAbove}
use Rattle.steps_above_memory.specs.Refusals.{IsFound}
use Rattle.steps_above_memory.specs.Events.{next_event}

-- the watch was told that the thread reads the ranges, or writes them, one after the other
abbrev pub WasToldAccesses : (thread : ℕ) → (write : Bool) → List Range → WatchState → WatchState → Type 0
WasToldAccesses t write rs old new = (past : List Told) → Stands past old → Stands
    (tell t write rs past) new

-- it was told of an event with these keys, and then of the writes
abbrev pub WasToldReturn : (thread : ℕ) → List Key → List Range → WatchState → WatchState → Type 0
WasToldReturn t keys rs old new = (past : List Told) → Stands past old →
    Stands (tell t true rs (Happened (occurrence t keys) ∷ past)) new

-- the call that a Ret closes: its thread's innermost one, of which so much of each region is used, and
-- this is committed
pub record IsReturnOf (program : Program) (memory : ℕ → Byte) (past : List Mark) (t func : ℕ)
    (args : List ℕ) (result : ℕ) (used : List ℕ) (committing : Option (ℕ × ℕ)) : Type 0 where
  pub closes : Closes (open_calls (marks_of (fresh memory) t past)) func args
      (program.interface.outs func args)
  pub sizes : AreUsedSizes (program.interface.outs func args) used
      (program.interface.used func args result)
  pub commits : IsCommitted (program.interface.commits func args result) committing

-- the checks of such a Ret have this property, whatever run memory and watch stand for
abbrev pub AtReturn : MemoryAbove → (thread : ℕ) → (used : List ℕ) → Option (ℕ × ℕ) → (Checks → Type 0) →
    Type 0
AtReturn above t used committing P = (program : Program) (memory : ℕ → Byte) (past : List Mark)
    (func : ℕ) (args : List ℕ) (result : ℕ) →
    StandsForAbove program memory past above →
    IsReturnOf program memory past t func args result used committing →
    P (return_checks program.interface (fresh memory) past (filled above.spaces) func args result)

-- they find nothing, or why it is refused
abbrev pub TakesReturn : MemoryAbove → (thread : ℕ) → (used : List ℕ) → Option (ℕ × ℕ) → Type 0
TakesReturn above t used committing = AtReturn above t used committing Passes

abbrev pub RefusesReturn : MemoryAbove → (thread : ℕ) → (used : List ℕ) → Option (ℕ × ℕ) → StepRefusal →
    Type 0
RefusesReturn above t used committing refusal = AtReturn above t used committing
    (λ cs. IsFound cs refusal)

-- whatever run they stand for, they stand for it with a Ret whose pieces are the used bytes of memory, in
-- these ranges, where
-- the rules allow it
abbrev pub MakesReturn : MemoryAbove → (thread : ℕ) → (used : List ℕ) → Option (ℕ × ℕ) → List Range →
    List Key → MemoryAbove → Type 0
MakesReturn old t used committing ranges keys new = (program : Program) (memory : ℕ → Byte)
    (past : List Mark) (steps clock : ℕ) (marks : List KeyMark)
    (func : ℕ) (args : List ℕ) (result : ℕ) (same : Bool) (pieces : List Piece) (commit : Commit) →
    StandsForAbove program memory past old → map (λ q. q.key) marks ≡ keys →
    piece_ranges (pieces ++ released commit) ≡ ranges →
    CommitsAs (next_event memory past t (Ret func args result same pieces commit) steps marks clock)
    old.spaces.held committing commit →
    ShowUsed old.spaces.bytes (pieces ++ released commit) (used ++ committed_size committing) →
    Allowed (replay_rules program (fresh memory)) (fresh memory) past (next_event memory past t
    (Ret func args result same pieces commit) steps marks clock) →
    StandsForAbove program memory (next_event memory past t
    (Ret func args result same pieces commit) steps marks clock ∷ past) new
