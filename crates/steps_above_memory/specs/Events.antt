-- What it says that an event of a thread is made.
use Rattle.std.specs.Prelude.{◌≡◌, ℕ, true, List, [], ◌∷◌, map}
use Rattle.run_events.specs.declared.key.Class.TheVariants.{Pool}
use Rattle.run_events.specs.declared.key.Key.{Key}
use Rattle.run_events.specs.declared.key.KeyMark.{KeyMark}
use Rattle.marks.specs.Places.{replay_pool}
use Rattle.marks.specs.Marks.{EventKind, Made, Mark}
use Rattle.marks.specs.Bytes.{Byte}
use Rattle.marks.specs.declared.range.Range.{Range}
use Rattle.logical_clock.specs.Events.{occurrence}
use Rattle.race_watch.specs.Told.{Told, Accessed, Happened}
use Rattle.race_watch.specs.State.{WatchState}
use Rattle.race_watch.specs.Stands.{Stands}
use Rattle.replay_runs.specs.Runs.{Allowed}
use Rattle.replay_runs.specs.Interface.{Program}
use Rattle.replay_runs.specs.Keys.{key}
use Rattle.replay_runs.specs.Pool.{IsPlace, blocks}
use Rattle.replay_runs.specs.Rules.{replay_rules}
use Rattle.replay_runs.specs.Laws.{fresh}
use Rattle.steps_above_memory.specs.declared.above.MemoryAbove.{MemoryAbove}
use Rattle.steps_above_memory.specs.Above.{StandsForAbove}
use Rattle.steps_above_memory.specs.Steps.{next_mark}

-- the event that a thread makes next, with what it carries
abbrev pub next_event : (ℕ → Byte) → List Mark → (thread : ℕ) → EventKind → (steps : ℕ) → List KeyMark →
    (clock : ℕ) → Mark
next_event memory past t kind steps keys clock = next_mark memory past t
    (Made (record { kind = kind; steps = steps; keys = keys; clock = clock }))

-- whatever run memory and watch stand for, they stand for it with the event, with these keys, where the
-- rules allow that
abbrev pub MakesEvent : MemoryAbove → (thread : ℕ) → List Key → EventKind → MemoryAbove → Type 0
MakesEvent old t keys kind new = (program : Program) (memory : ℕ → Byte) (past : List Mark)
    (steps clock : ℕ) (marks : List KeyMark) →
    StandsForAbove program memory past old → map (λ q. q.key) marks ≡ keys →
    Allowed (replay_rules program (fresh memory)) (fresh memory) past
    (next_event memory past t kind steps marks clock) →
    StandsForAbove program memory (next_event memory past t kind steps marks clock ∷ past) new

-- whatever run they stand for, a new block of the size has this place in the pool
abbrev pub HasPlace : MemoryAbove → (size addr : ℕ) → Type 0
HasPlace above size addr = (program : Program) (memory : ℕ → Byte) (past : List Mark) →
    StandsForAbove program memory past above → IsPlace replay_pool (blocks (fresh memory) past) size addr

-- the watch was told of the write of a block that is freed, and then of the event
abbrev pub WasToldFree : (thread : ℕ) → Range → WatchState → WatchState → Type 0
WasToldFree t r old new = (past : List Told) → Stands past old →
    Stands (Happened (occurrence t (key Pool 0 ∷ [])) ∷ Accessed t r true ∷ past) new
