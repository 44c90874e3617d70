-- What it says that a Call is made, or refused.
use Rattle.std.specs.Prelude.{◌≡◌, ℕ, Bool, true, false, List, [], ◌∷◌, ◌++◌, map, length, All}
use Rattle.run_events.specs.declared.key.Key.{Key}
use Rattle.run_events.specs.declared.key.KeyMark.{KeyMark}
use Rattle.marks.specs.Ranges.{Piece, Prepared, piece_ranges}
use Rattle.marks.specs.Marks.{Call, Mark}
use Rattle.marks.specs.Bytes.{Byte}
use Rattle.marks.specs.Wants.{Calls}
use Rattle.logical_clock.specs.Events.{occurrence}
use Rattle.race_watch.specs.Told.{Told, Happened}
use Rattle.race_watch.specs.State.{WatchState}
use Rattle.race_watch.specs.Stands.{Stands}
use Rattle.race_watch_laws.specs.Told.{tell}
use Rattle.replay_runs.specs.Runs.{Allowed}
use Rattle.replay_runs.specs.Interface.{Program}
use Rattle.replay_runs.specs.Rules.{replay_rules}
use Rattle.replay_runs.specs.Laws.{fresh}
use Rattle.replay_runs.specs.Checks.{Checks, Passes, checks}
use Rattle.space_memory.specs.Spaces.{SpaceState}
use Rattle.space_memory_laws.specs.Calls.{IsShown, Part, parts_of}
use Rattle.space_memory_laws.specs.CallChecks.{Wanted}
use Rattle.steps_above_memory.specs.declared.above.MemoryAbove.{MemoryAbove}
use Rattle.steps_above_memory.specs.declared.parts.CallRegions.{CallRegions}
use Rattle.steps_above_memory.specs.declared.refusal.StepRefusal.{StepRefusal}
use Rattle.steps_above_memory.specs.Above.{StandsForAbove}
use Rattle.steps_above_memory.specs.Refusals.{IsFound}
use Rattle.steps_above_memory.specs.Events.{next_event}
use Rattle.steps_above_memory.specs.Parts.{IsMaking, IsRegion, regions_under}

-- each range is that of a region, and each that is prepared has a key
pub record AreRegions (regions : CallRegions) : Type 0 where
  pub ins : All IsRegion regions.ins.now
  pub outs : All IsRegion regions.outs.now
  pub prepared : All IsRegion regions.prepared.now
  pub under : length regions.under.now ≡ length regions.prepared.now

-- the regions that are prepared, with their keys
abbrev pub prepares : CallRegions → List Prepared
prepares regions = regions_under regions.under.now regions.prepared.now

-- whatever run memory and watch stand for, memory is then that of a Call of the thread with these parts
abbrev pub HasParts : MemoryAbove → (thread : ℕ) → List Part → SpaceState → Type 0
HasParts above t parts spaces = (program : Program) (memory : ℕ → Byte) (past : List Mark) →
    StandsForAbove program memory past above → IsMaking program memory past t parts above spaces

-- memory could hold all ranges that are held or prepared, and no range races
abbrev pub TakesRanges : MemoryAbove → (thread : ℕ) → CallRegions → Type 0
TakesRanges above t regions = (spaces : SpaceState) ×
    HasParts above t (parts_of regions.ins.now (regions.outs.now ++ regions.prepared.now) []) spaces

-- the checks of a Call with these regions have this property, whatever run memory and watch stand for
abbrev pub AtCall : MemoryAbove → (thread : ℕ) → CallRegions → (Checks → Type 0) → Type 0
AtCall above t regions P = (program : Program) (memory : ℕ → Byte) (past : List Mark) (indirect : Bool)
    (func : ℕ) (args : List ℕ) →
    StandsForAbove program memory past above →
    Wanted program.interface indirect func args regions.ins.now regions.outs.now (prepares regions) →
    P (checks program.interface (fresh memory) past t (Calls indirect func args))

-- they find nothing, or why it is refused
abbrev pub TakesCall : MemoryAbove → (thread : ℕ) → CallRegions → Type 0
TakesCall above t regions = AtCall above t regions Passes

abbrev pub RefusesCall : MemoryAbove → (thread : ℕ) → CallRegions → StepRefusal → Type 0
RefusesCall above t regions refusal = AtCall above t regions (λ cs. IsFound cs refusal)

-- whatever run they stand for, they stand for it with a Call that reads these bytes of memory, where the
-- rules allow it
abbrev pub MakesCall : MemoryAbove → (thread : ℕ) → CallRegions → List Key → MemoryAbove → Type 0
MakesCall old t regions keys new = (program : Program) (memory : ℕ → Byte) (past : List Mark)
    (steps clock : ℕ) (marks : List KeyMark)
    (func : ℕ) (args : List ℕ) (pieces : List Piece) →
    StandsForAbove program memory past old → map (λ q. q.key) marks ≡ keys →
    piece_ranges pieces ≡ regions.ins.now → All (IsShown old.spaces.bytes) pieces →
    Allowed (replay_rules program (fresh memory)) (fresh memory) past (next_event memory past t
    (Call func args pieces regions.outs.now (prepares regions)) steps marks clock) →
    StandsForAbove program memory (next_event memory past t
    (Call func args pieces regions.outs.now (prepares regions)) steps marks clock ∷ past) new

-- where the old value stands for a run, memory and watch are as they were
abbrev pub LeavesAll : MemoryAbove → MemoryAbove → Type 0
LeavesAll old new = (program : Program) (memory : ℕ → Byte) (past : List Mark) →
    StandsForAbove program memory past old →
    (new.spaces ≡ old.spaces) × (new.watch ≡ old.watch)

-- the watch was told of the reads, then of the writes, and then of the event
abbrev pub WasToldCall : (thread : ℕ) → CallRegions → List Key → WatchState → WatchState → Type 0
WasToldCall t regions keys old new = (past : List Told) → Stands past old →
    Stands (Happened (occurrence t keys) ∷ tell t true (regions.outs.now ++ regions.prepared.now)
    (tell t false regions.ins.now past)) new
