-- A Call while it is made, part by part: what is added to it, and what its checks find at a part.
use Rattle.std.specs.Prelude.{◌≡◌, ℕ, Bool, true, false, List, [], ◌∷◌, ◌++◌, None, All}
use Rattle.marks.specs.declared.breach.BreachKind.TheVariants as breach
use Rattle.marks.specs.declared.range.Range.{Range}
use Rattle.marks.specs.Ranges.{Prepared, prepared_ranges}
use Rattle.marks.specs.Marks.{Mark}
use Rattle.marks.specs.Bytes.{Byte}
use Rattle.marks.specs.Wants.{Calls}
use Rattle.race_watch.specs.Told.{Told}
use Rattle.race_watch.specs.State.{WatchState}
use Rattle.race_watch.specs.Stands.{NoRace, Stands}
use Rattle.replay_runs.specs.Interface.{Program}
use Rattle.replay_runs.specs.Laws.{fresh}
use Rattle.replay_runs.specs.Passing.{Unraced}
use Rattle.replay_runs.specs.Checks.{Done, checks, range_checks}
use Rattle.space_memory_access.specs.declared.refusal.Refusal.{Refusal}
use Rattle.space_memory_access.specs.declared.refusal.Refusal.TheVariants.{NotLive, Pending, OtherSpace, ReadOnly, StackFull, KeyInUse, NoKey, Size}
use Rattle.space_memory.specs.Spaces.{SpaceState}
use Rattle.space_memory.specs.Held.{region_range}
use Rattle.space_memory_laws.specs.Calls.{InCall, Part, is_written, parts_of, range_of}
use Rattle.space_memory_laws.specs.CallChecks.{Wanted}
use Rattle.steps_above_memory.specs.declared.above.MemoryAbove.{MemoryAbove}
use Rattle.steps_above_memory.specs.declared.parts.Unprepared.{Unprepared}
use Rattle.steps_above_memory.specs.declared.parts.Unprepared.TheVariants as unprepared
use Rattle.steps_above_memory.specs.declared.refusal.StepRefusal.{StepRefusal}
use Rattle.steps_above_memory.specs.declared.refusal.StepRefusal.TheVariants.{Breach}
use Rattle.steps_above_memory.specs.Above.{StandsForAbove}
use Rattle.steps_above_memory.specs.Refusals.{IsFound, refusal_of}

-- the range of a region: that of a NULL pointer is empty
abbrev pub IsRegion : Range → Type 0
IsRegion r = region_range r ≡ r

-- each range is prepared under the key at its place
abbrev pub regions_under : (keys : List ℕ) → List Range → List Prepared
regions_under [] rs = []
regions_under (k ∷ ks) [] = []
regions_under (k ∷ ks) (r ∷ rs) = record { key = k; range = r } ∷ regions_under ks rs

-- no access races with the part, which the Call reads, or hands down to be written
abbrev pub IsUnraced : List Mark → (thread : ℕ) → Part → Type 0
IsUnraced past t p = Unraced past t (is_written p) (range_of p)

-- memory while a thread makes a Call: it was so before, and the Call has these parts, none of which races
pub record IsMaking (program : Program) (memory : ℕ → Byte) (past : List Mark) (t : ℕ)
    (parts : List Part) (before : MemoryAbove) (spaces : SpaceState) : Type 0 where
  pub stands : StandsForAbove program memory past before
  pub call : InCall (fresh memory) past t parts before.spaces spaces
  pub unraced : All (IsUnraced past t) parts

-- the Call has these parts besides; the watch says of races
abbrev pub Adds : (thread : ℕ) → List Part → WatchState → SpaceState → SpaceState → Type 0
Adds t more watch old new = (program : Program) (memory : ℕ → Byte) (past : List Mark)
    (before : MemoryAbove) (parts : List Part) →
    before.watch ≡ watch → IsMaking program memory past t parts before old →
    IsMaking program memory past t (parts ++ more) before new

-- it has some parts besides
abbrev pub AddsSome : (thread : ℕ) → WatchState → SpaceState → SpaceState → Type 0
AddsSome t watch old new = (some : List Part) × Adds t some watch old new

-- the watch sees no race of the range
abbrev pub SeesNoRace : (thread : ℕ) → (write : Bool) → Range → WatchState → Type 0
SeesNoRace t write r watch = (past : List Told) → Stands past watch → NoRace past t r write

-- the checks of the range find this, whatever is held besides
abbrev pub RefusesRange : (thread : ℕ) → (write : Bool) → Range → WatchState → StepRefusal → Type 0
RefusesRange t write r watch refusal = (program : Program) (memory : ℕ → Byte) (past : List Mark)
    (before : MemoryAbove) (more : List Range) →
    before.watch ≡ watch → StandsForAbove program memory past before →
    IsFound (range_checks (fresh memory) past t write more r Done) refusal

-- the checks of a Call that comes to read these ranges, or to hold them, find this at one of them. Those
-- that it prepares come after those that it holds, and are tested like them
abbrev pub RefusesAmong : (thread : ℕ) → (write : Bool) → List Range → WatchState → SpaceState →
    StepRefusal → Type 0
RefusesAmong t false rs watch old refusal = (program : Program) (memory : ℕ → Byte) (past : List Mark)
    (before : MemoryAbove) (ins after outs : List Range) (prepared : List Prepared)
    (indirect : Bool) (func : ℕ) (args : List ℕ) →
    before.watch ≡ watch → IsMaking program memory past t (parts_of ins [] []) before old →
    Wanted program.interface indirect func args (ins ++ (rs ++ after)) outs prepared →
    IsFound (checks program.interface (fresh memory) past t (Calls indirect func args)) refusal
RefusesAmong t true rs watch old refusal = (program : Program) (memory : ℕ → Byte) (past : List Mark)
    (before : MemoryAbove) (ins held after outs : List Range) (prepared : List Prepared)
    (indirect : Bool) (func : ℕ) (args : List ℕ) →
    before.watch ≡ watch → IsMaking program memory past t (parts_of ins held []) before old →
    Wanted program.interface indirect func args ins outs prepared →
    outs ++ prepared_ranges prepared ≡ held ++ (rs ++ after) →
    IsFound (checks program.interface (fresh memory) past t (Calls indirect func args)) refusal

-- the checks of a Call that comes to prepare these find this at one of them: it is that of its range, or its
-- key is in use, and memory could hold all ranges of the Call
abbrev pub RefusesToPrepare : (thread : ℕ) → List Prepared → WatchState → SpaceState → Unprepared → Type 0
RefusesToPrepare t regions watch old (unprepared.Refused refusal) = (program : Program)
    (memory : ℕ → Byte) (past : List Mark) (before : MemoryAbove) (ins outs : List Range)
    (here after : List Prepared) (indirect : Bool) (func : ℕ) (args : List ℕ) →
    before.watch ≡ watch → IsMaking program memory past t (parts_of ins outs here) before old →
    Wanted program.interface indirect func args ins outs (here ++ (regions ++ after)) →
    IsFound (checks program.interface (fresh memory) past t (Calls indirect func args)) refusal
RefusesToPrepare t regions watch old (unprepared.KeyInUse key) = (program : Program)
    (memory : ℕ → Byte) (past : List Mark) (before : MemoryAbove) (ins outs : List Range)
    (here after : List Prepared) (tested : SpaceState) (indirect : Bool) (func : ℕ) (args : List ℕ) →
    before.watch ≡ watch → IsMaking program memory past t (parts_of ins outs here) before old →
    IsMaking program memory past t
    (parts_of ins (outs ++ prepared_ranges (here ++ (regions ++ after))) []) before tested →
    Wanted program.interface indirect func args ins outs (here ++ (regions ++ after)) →
    IsFound (checks program.interface (fresh memory) past t (Calls indirect func args))
    (Breach breach.KeyInUse key None)

-- what a refusal of memory is to a region that is to be prepared
abbrev pub unprepared_by : Refusal → Unprepared
unprepared_by (NotLive x) = unprepared.Refused (refusal_of (NotLive x))
unprepared_by (Pending x) = unprepared.Refused (refusal_of (Pending x))
unprepared_by (OtherSpace x) = unprepared.Refused (refusal_of (OtherSpace x))
unprepared_by (ReadOnly x) = unprepared.Refused (refusal_of (ReadOnly x))
unprepared_by (StackFull x) = unprepared.Refused (refusal_of (StackFull x))
unprepared_by (KeyInUse key) = unprepared.KeyInUse key
unprepared_by (NoKey key) = unprepared.Refused (refusal_of (NoKey key))
unprepared_by (Size x) = unprepared.Refused (refusal_of (Size x))
